use Rattle.std.proofs.Common.{◌≡◌, ◌∙◌, ap, sym, subst, arith, reverse, suc, length, [], ◌∷◌, ◌++◌}
use Rattle.std.proofs.Common.{drop, option_to_list, length-append}
use Rattle.std.proofs.lemmas.List.{length-reverse}
use Rattle.captured_variables.specs.code.Places.{HasPlaces}
use Rattle.captured_variables.proofs.Finding.{last_first, unmarked}
use Rattle.captured_variables.proofs.scope.Scope.unbind.Goals as goal

pub invariant_of-self : goal.invariant_of-self
invariant_of-self c =
    let x = c.in-Some.variable in
    let xs = c.pop.new.self.items in
    let places = c.self.inside.places.items in
    let whole : c.self.inside.variables.items ≡ xs ++ x ∷ [] =
    c.pop.ensures.items ∙ ap (λ o. xs ++ option_to_list o) c.in-Some.is in
    let l = length-append xs (x ∷ []) in
    let m = length-reverse xs in
    let k = ap length whole in
    let place : c.len-place.result ≡ suc (length (reverse xs)) =
    omega (arith, l, m, k, c.len-place.ensures) in
    unmarked places c.unmark.new.places.items (reverse xs) x c.len-place.result
    (subst (HasPlaces places) (ap reverse whole ∙ last_first xs x) c.self.invariant) place
    c.unmark.ensures

pub returns-in-Some : goal.returns-in-Some
returns-in-Some c =
    let x = c.in-Some.variable in
    let xs = c.pop.new.self.items in
    let whole : c.self.inside.variables.items ≡ xs ++ x ∷ [] =
    c.pop.ensures.items ∙ ap (λ o. xs ++ option_to_list o) c.in-Some.is in
    ap (drop 1) (sym (ap reverse whole ∙ last_first xs x)) ∙ ap (drop 1) c.self.view_is
