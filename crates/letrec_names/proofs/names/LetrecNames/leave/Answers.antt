use Rattle.std.proofs.Common.{◌≡◌, ◌∙◌, ap, sym, subst, reverse, ◌∷◌, ◌++◌, drop}
use Rattle.std.proofs.Common.{option_to_list}
use Rattle.letrec_names.specs.code.Entries.{HasNumbers, reach_in}
use Rattle.letrec_names.proofs.Naming.{innermost, last_first, left}
use Rattle.letrec_names.proofs.names.LetrecNames.leave.Goals as goal

pub restore-requires : goal.restore-requires
restore-requires c =
    let e = c.in-Some.entry in
    let es = c.pop.new.self.items in
    let before : reverse c.self.inside.entries.items ≡ e ∷ reverse es =
    ap reverse (c.pop.ensures.items ∙ ap (λ o. es ++ option_to_list o) c.in-Some.is)
    ∙ last_first es e in
    innermost c.self.inside.numbers (reverse es) e
    (subst (HasNumbers c.self.inside.numbers) before c.self.invariant)

pub invariant_of-self : goal.invariant_of-self
invariant_of-self c =
    let e = c.in-Some.entry in
    let es = c.pop.new.self.items in
    let before : reverse c.self.inside.entries.items ≡ e ∷ reverse es =
    ap reverse (c.pop.ensures.items ∙ ap (λ o. es ++ option_to_list o) c.in-Some.is)
    ∙ last_first es e in
    left c.self.inside.numbers c.restore.new.numbers (reverse es) e
    (subst (HasNumbers c.self.inside.numbers) before c.self.invariant) c.restore.ensures

pub returns-in-Some : goal.returns-in-Some
returns-in-Some c =
    let e = c.in-Some.entry in
    let es = c.pop.new.self.items in
    let before : reverse c.self.inside.entries.items ≡ e ∷ reverse es =
    ap reverse (c.pop.ensures.items ∙ ap (λ o. es ++ option_to_list o) c.in-Some.is)
    ∙ last_first es e in
    ap (drop 1) (ap reach_in (sym before)) ∙ ap (drop 1) c.self.view_is
