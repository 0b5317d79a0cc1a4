use Rattle.std.proofs.Common.{◌≡◌, drop, map}
use Rattle.std.specs.Prelude.{fold}
use Rattle.std.specs.String.{string_bytes}
use Rattle.bk_num.specs.Names.{with_name}
use Rattle.page_ctx.specs.Strings.{running_decls}
use Rattle.page_ctx.proofs.strings_asked.push_decls.Given as goal

abbrev pub invariant-loop-decl : goal.invariant-loop-decl
invariant-loop-decl l = fold with_name (map (λ k. string_bytes k) l.asked.keys) (running_decls (drop l.decl-index l.decls)) ≡ fold with_name (map (λ k. string_bytes k) l.initial.asked.keys) (running_decls l.decls)
