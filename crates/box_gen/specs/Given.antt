-- What a flow is made from, as it is given.
use Rattle.std.specs.Prelude.{option_map}
use Rattle.gen_text.specs.Texts.{source_in as text_source}
use Rattle.soft_hyphens.specs.Words.{points_in}
use Rattle.box_gen.specs.declared.build.Given.{Given}
use Rattle.box_gen.specs.Sources.{source_of}
use Rattle.box_gen.specs.Trees.{Source}

-- what texts are generated from, set in some faces, and where words may be hyphenated
abbrev pub source_given : Given → Source
source_given g = source_of (text_source g.texts) g.faces.now (points_in (option_map (λ h. h.now) g.hyphenator))
