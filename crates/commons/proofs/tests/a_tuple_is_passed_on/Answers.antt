use Rattle.std.proofs.Common.{◌∙◌, ◌++◌, ◌∷◌, [], List, ap, sym, subst}
use Rattle.commons.specs.declared.view.View.{View}
use Rattle.commons.specs.declared.plain.PlainPass.{PlainPass}
use Rattle.commons.specs.Plain.{IsApartIn, area_size_in}
use Rattle.commons.proofs.Families.{both_passes, both_apart, one_child}
use Rattle.commons.specs.Views.{HasPrinted}
use Rattle.commons.proofs.Printing.{printed_none}
use Rattle.commons.proofs.tests.a_tuple_is_passed_on.Goals as goal

pub exchange-requires-clause-texts : goal.exchange-requires-clause-texts
exchange-requires-clause-texts g c = λ _. c.in_ok-second.ensures.texts 0 (subst (λ (v : View). HasPrinted (area_size_in c.in_ok-commons.commons) v 0) (sym c.in_ok-commons.ensures.view) (printed_none (area_size_in c.in_ok-commons.commons) 1024))

pub tell-requires-clause-to_pass : goal.tell-requires-clause-to_pass
tell-requires-clause-to_pass g c =
    let p = c.in_ok-read.ensures.passes in
    let a = c.claim.ensures.others.1 c.exchange.new.second p.1 p.2 in
    a.0

pub tell-requires-clause-to_born : goal.tell-requires-clause-to_born
tell-requires-clause-to_born g c =
    let p = c.in_ok-read.ensures.passes in
    let a = c.claim.ensures.others.1 c.exchange.new.second p.1 p.2 in
    ap (λ (v : View). v.unborn) a.2.0 ∙ c.in_ok-read.ensures.again.2

pub close-requires-clause-passes : goal.close-requires-clause-passes
close-requires-clause-passes g c = both_passes _ _ _ _ (c.in_ok-push-2.ensures.items ∙ ap (λ (xs : List PlainPass). xs ++ c.tell.new.to ∷ []) (c.in_ok-push.ensures.items ∙ ap (λ (xs : List PlainPass). xs ++ c.tell.new.from ∷ []) c.new-passes.ensures.items)) c.tell.ensures.from_stays.0 c.tell.ensures.others.0

pub close-requires-clause-apart : goal.close-requires-clause-apart
close-requires-clause-apart g c =
    let p = c.in_ok-read.ensures.passes in
    let a = c.claim.ensures.others.1 c.exchange.new.second p.1 p.2 in
    let b = c.tell.ensures.others.1 c.claim.new.pass c.claim.ensures.others.0 (λ e. a.1 (sym e)) in
    let far : IsApartIn c.tell.new.from c.tell.new.to = c.tell.ensures.from_stays.1 c.tell.new.to (λ e. b.1 (sym e)) in
    both_apart _ _ _ (c.in_ok-push-2.ensures.items ∙ ap (λ (xs : List PlainPass). xs ++ c.tell.new.to ∷ []) (c.in_ok-push.ensures.items ∙ ap (λ (xs : List PlainPass). xs ++ c.tell.new.from ∷ []) c.new-passes.ensures.items)) far

pub close-requires-clause-children : goal.close-requires-clause-children
close-requires-clause-children g c =
    let p = c.in_ok-read.ensures.passes in
    let a = c.claim.ensures.others.1 c.exchange.new.second p.1 p.2 in
    let told = c.in_ok-tell.ensures.told.0.0 in
    let same = c.tell.ensures.from_same in
    let refused = c.in-Err.ensures.refused.0 in
    let root = ap (λ (v : View). v.pid) same ∙ (ap (λ (v : View). v.pid) refused ∙ (c.in_ok-read.ensures.same.0 ∙ (c.in_ok-second.ensures.pids.0 ∙ ap (λ (v : View). v.pid) c.in_ok-commons.ensures.view))) in
    let bore = ap (λ (v : View). v.born) same ∙ (ap (λ (v : View). v.born) refused ∙ (c.in_ok-read.ensures.same.1 ∙ (c.in_ok-second.ensures.children.0 ∙ ap (λ (v : View). v.born ++ c.in_ok-second.pid ∷ []) c.in_ok-commons.ensures.view))) in
    let pid = ap (λ (v : View). v.pid) told ∙ (ap (λ (v : View). v.pid) a.2.0 ∙ (c.in_ok-read.ensures.second_same.0 ∙ c.in_ok-second.ensures.pids.1)) in
    let none = ap (λ (v : View). v.born) told ∙ (ap (λ (v : View). v.born) a.2.0 ∙ (c.in_ok-read.ensures.second_same.1 ∙ c.in_ok-second.ensures.children.1)) in
    one_child c.tell.new.self c.tell.new.from c.tell.new.to _ c.in_ok-second.pid (c.in_ok-push-2.ensures.items ∙ ap (λ (xs : List PlainPass). xs ++ c.tell.new.to ∷ []) (c.in_ok-push.ensures.items ∙ ap (λ (xs : List PlainPass). xs ++ c.tell.new.from ∷ []) c.new-passes.ensures.items)) root bore pid none
