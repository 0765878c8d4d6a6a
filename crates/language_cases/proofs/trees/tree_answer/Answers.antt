use Rattle.std.proofs.Common.{◌≡◌, Err, inl, inr, subst}
use Rattle.std.proofs.lemmas.Result.{IfOk-weaker}
use Rattle.hy_core.specs.Refusals.{IsRefusedText}
use Rattle.core_parse.specs.Answers.{IfRefused}
use Rattle.core_parse.specs.declared.answer.ReadAnswer.{ReadAnswer}
use Rattle.language_cases.specs.Trees.{IsTreeAnswer, module_answer, refused_answer}
use Rattle.language_cases.proofs.trees.tree_answer.Goals as goal

pub returns-in-Ok : goal.returns-in-Ok
returns-in-Ok c =
    let text = c.args.text.now in
    IfOk-weaker c.module_text.result (λ answer. answer.items ≡ module_answer c.in-Ok.module)
    (λ answer. IsTreeAnswer text answer.items)
    (λ answer is. inl (c.in-Ok.module, c.in-Ok.ensures.found, is)) c.module_text.ensures

pub returns-in-Err-Refused : goal.returns-in-Err-Refused
returns-in-Err-Refused c =
    let text = c.args.text.now in
    let why = c.in-Err-Refused.refused in
    let refused : IsRefusedText text why.kind why.place =
    subst
    (λ (a : ReadAnswer). IfRefused (Err a) (λ kind place. IsRefusedText text kind place))
    c.in-Err-Refused.field-0-is c.in-Err-Refused.ensures.refused in
    IfOk-weaker c.refused_text.result
    (λ answer. answer.items ≡ refused_answer text why.kind why.place)
    (λ answer. IsTreeAnswer text answer.items)
    (λ answer is. inr (why.kind, why.place, refused, is))
    c.refused_text.ensures
