use Rattle.std.proofs.Common.{◌≡◌, ◌++◌, ◌∷◌, List, [], ap, ◌∙◌, arith, refl}
use Rattle.commons.specs.declared.plain.Account.{Account}
use Rattle.commons.specs.Plain.{no_account}
use Rattle.commons.proofs.PlainOpens.{opened}
use Rattle.commons.proofs.plain.PlainCommons.new.Goals as goal

pub returns-clause-pass : goal.returns-clause-pass
returns-clause-pass c =
    let accounts : c.push.new.self.items ≡ no_account ∷ [] = c.in_ok-push.ensures.items ∙ ap (λ (xs : List Account). xs ++ no_account ∷ []) c.new-accounts.ensures.items in
    let exact = c.in_ok-entries.ensures.exact in
    opened _ c.args.area c.args.log refl c.in_ok-entries.ensures.items refl (c.in_ok-words.ensures.items_if_clones_equal (λ y e. e)) accounts c.requires.area c.requires.log (omega arith)
