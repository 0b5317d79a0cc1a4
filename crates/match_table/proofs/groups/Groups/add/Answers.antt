use Rattle.std.proofs.Common.{◌∙◌, map, ap, sym}
use Rattle.std.proofs.lemmas.List.{length-map}
use Rattle.match_table.proofs.GroupLemmas.{added-old, added-new}
use Rattle.match_table.proofs.groups.Groups.add.Goals as goal

pub returns-in-None : goal.returns-in-None
returns-in-None c =
    added-new c.start.result c.args.selector.now c.args.place (map (λ s. s.now) c.args.self.now.firsts.items) (map (λ s. s.now) c.start.new.self.firsts.items) c.args.self.now.places.items c.start.new.self.places.items
    (c.requires ∙ sym (length-map c.args.self.now.firsts.items (λ s. s.now))) c.start.ensures.firsts c.start.ensures.places

pub returns-in-Some : goal.returns-in-Some
returns-in-Some c =
    added-old c.join.result c.args.selector.now c.args.place c.in-Some.group (map (λ s. s.now) c.args.self.now.firsts.items) (map (λ s. s.now) c.join.new.self.firsts.items) c.args.self.now.places.items c.join.new.self.places.items
    c.in-Some.ensures.same (c.requires ∙ sym (length-map c.args.self.now.firsts.items (λ s. s.now))) (ap (map (λ s. s.now)) c.join.ensures.firsts) c.join.ensures.places
