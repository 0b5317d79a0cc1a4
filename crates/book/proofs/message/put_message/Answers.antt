use Rattle.book.specs.Message.{texts_of}
use Rattle.book.proofs.message.put_message.Goals as goal

pub returns-in-NotRead-clause-bytes : goal.returns-in-NotRead-clause-bytes
unfolding texts_of
returns-in-NotRead-clause-bytes g c = rw c.in-NotRead.is c.put_texts.ensures.bytes

pub returns-in-ReadFault-clause-bytes : goal.returns-in-ReadFault-clause-bytes
unfolding texts_of
returns-in-ReadFault-clause-bytes g c = rw c.in-ReadFault.is c.put_unread_line.ensures.bytes

pub returns-in-TooLarge-clause-bytes : goal.returns-in-TooLarge-clause-bytes
unfolding texts_of
returns-in-TooLarge-clause-bytes g c = rw c.in-TooLarge.is c.put_bytes_line.ensures.bytes

pub returns-in-NotUtf8-clause-bytes : goal.returns-in-NotUtf8-clause-bytes
unfolding texts_of
returns-in-NotUtf8-clause-bytes g c = rw c.in-NotUtf8.is c.put_bytes_line-in-NotUtf8.ensures.bytes

pub returns-in-WriteFault-clause-bytes : goal.returns-in-WriteFault-clause-bytes
unfolding texts_of
returns-in-WriteFault-clause-bytes g c = rw c.in-WriteFault.is c.put_texts-in-WriteFault.ensures.bytes

pub returns-in-NoMemory-clause-bytes : goal.returns-in-NoMemory-clause-bytes
unfolding texts_of
returns-in-NoMemory-clause-bytes g c = rw c.in-NoMemory.is c.put_texts-in-NoMemory.ensures.bytes

pub returns-in-Limit-clause-bytes : goal.returns-in-Limit-clause-bytes
unfolding texts_of
returns-in-Limit-clause-bytes g c = rw c.in-Limit.is c.put_limit_line.ensures.bytes
