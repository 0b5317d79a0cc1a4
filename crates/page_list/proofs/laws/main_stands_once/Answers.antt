use Rattle.page_seq.specs.Owners.{solids_of}
use Rattle.page_list.proofs.PartLemmas.{paged_parts}
use Rattle.page_list.proofs.TextLemmas.{parted_text, parted_edges}
use Rattle.page_list.proofs.laws.main_stands_once.Goals as goal

pub returns : goal.returns
returns c faces flow frames pages can paged =
    let all = paged_parts faces flow frames can pages paged in
    record { all = all; text = parted_text flow.main (solids_of pages) can.main.is all; edges = parted_edges flow.main (solids_of pages) all }
