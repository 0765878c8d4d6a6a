use Rattle.std.proofs.Common.{◌≡◌, true, false, if◌then◌else◌, None, codes, sym, ap, ◌∙◌}
use Rattle.std.specs.Str.{bytes_eq}
use Rattle.core_names.specs.code.Rows.{built_in_named}
use Rattle.core_names.proofs.RowLemmas.{by_rows}
use Rattle.core_names.proofs.built_in.built_in_of.Goals as goal

pub returns-then-eq : goal.returns-then-eq
returns-then-eq c =
    let is : bytes_eq c.args.place.now (codes "erlang") ≡ true = cc in
    c.built_in_named.ensures ∙ ap (λ b. if b then built_in_named c.args.name.now c.args.arity else None) (sym is) ∙ by_rows c.args.place.now c.args.name.now c.args.arity

pub returns-else-eq : goal.returns-else-eq
returns-else-eq c =
    let is : bytes_eq c.args.place.now (codes "erlang") ≡ false = cc in
    ap (λ b. if b then built_in_named c.args.name.now c.args.arity else None) (sym is) ∙ by_rows c.args.place.now c.args.name.now c.args.arity
