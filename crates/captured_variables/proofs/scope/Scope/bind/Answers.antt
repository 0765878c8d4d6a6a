use Rattle.std.proofs.Common.{◌≡◌, sym, ◌∙◌, ap, subst, arith, suc, reverse, [], ◌∷◌, ◌++◌, length}
use Rattle.std.proofs.Common.{length-append}
use Rattle.std.proofs.lemmas.List.{length-reverse}
use Rattle.captured_variables.specs.code.Places.{HasPlaces}
use Rattle.captured_variables.proofs.Finding.{last_first, marked, places_same}
use Rattle.captured_variables.proofs.scope.Scope.bind.Goals as goal

pub invariant_of-self : goal.invariant_of-self
invariant_of-self c =
    places_same c.self.inside.places.items c.make_room.new.numbers.items
    (reverse c.self.inside.variables.items) c.make_room.ensures.same c.self.invariant

pub invariant_of-self-then-len-ge4294967295 : goal.invariant_of-self-then-len-ge4294967295
invariant_of-self-then-len-ge4294967295 c =
    places_same c.self.inside.places.items c.make_room.new.numbers.items
    (reverse c.self.inside.variables.items) c.make_room.ensures.same c.self.invariant

pub invariant_of-self-in_err-push : goal.invariant_of-self-in_err-push
invariant_of-self-in_err-push c =
    let room = c.make_room.new.numbers.items in
    let base =
    places_same c.self.inside.places.items room (reverse c.self.inside.variables.items)
    c.make_room.ensures.same c.self.invariant in
    subst (λ l. HasPlaces room (reverse l)) (sym c.in_err-push.ensures.items) base

pub invariant_of-self-2 : goal.invariant_of-self-2
invariant_of-self-2 c =
    let x = c.args.variable in
    let xs = c.self.inside.variables.items in
    let room = c.make_room.new.numbers.items in
    let base =
    places_same c.self.inside.places.items room (reverse xs) c.make_room.ensures.same
    c.self.invariant in
    let grown : c.push.new.self.items ≡ xs ++ x ∷ [] = c.in_ok-push.ensures.items in
    let l = ap length grown ∙ length-append xs (x ∷ []) in
    let m = length-reverse xs in
    let place : c.len-2.result ≡ suc (length (reverse xs)) =
    omega (arith, l, m, c.len-2.ensures, c.push.new.self.ok.0) in
    subst (HasPlaces c.mark.new.places.items) (sym (ap reverse grown ∙ last_first xs x))
    (marked room c.mark.new.places.items (reverse xs) x c.len-2.result base place c.mark.ensures)

pub returns : goal.returns
returns c =
    let x = c.args.variable in
    let xs = c.self.inside.variables.items in
    let grown : c.push.new.self.items ≡ xs ++ x ∷ [] = c.in_ok-push.ensures.items in
    ap reverse grown ∙ last_first xs x ∙ ap (λ l. x ∷ l) c.self.view_is
