use Rattle.words.proofs.CommandLemmas.{html_given, metrics_given}
use Rattle.words.proofs.values.format_in.Goals as goal

pub text_in-requires : goal.text_in-requires
text_in-requires c = metrics_given c.args.matches.now c.requires

pub text_in-requires-2 : goal.text_in-requires-2
text_in-requires-2 c = html_given c.args.matches.now c.requires
