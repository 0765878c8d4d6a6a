use Rattle.std.proofs.Common.{sym, ◌∙◌, ap, arith, ◌≡◌, drop, [], ◌∷◌, ◌+◌, get_or}
use Rattle.std.proofs.lemmas.List.{drop_all, get_or_default}
use Rattle.lowered_code.specs.Builder.{first}
use Rattle.lowered_code.specs.LoweredGuards.{bound_to}
use Rattle.code_writing.proofs.BoundLemmas.{bound_step, let_back}
use Rattle.code_writing.proofs.scope.Scope.bind_all.Goals as goal

pub loop-variable-preserved : goal.loop-variable-preserved
loop-variable-preserved c =
    let x = get_or c.args.variables.now c.loop-variable.variable-index 0 in
    let f : c.bind.new.self ≡ (x, first (drop c.loop-variable.place c.args.registers.now)) ∷ c.loop-variable.self = c.in_ok-bind.ensures ∙ ap (λ r. (x, r) ∷ c.loop-variable.self) c.register_at.ensures in
    (ap (λ n. n + 1) c.loop-variable.invariant.0, bound_step c.loop-variable.variable-index c.loop-variable.place c.args.variables.now c.args.registers.now c.loop-variable.self c.bind.new.self x c.loop-variable-test.true (get_or_default c.args.variables.now c.loop-variable.variable-index 0 x c.loop-variable-test.true) f ∙ c.loop-variable.invariant.1)

pub returns-clause-back : goal.returns-clause-back
returns-clause-back c =
    let past : drop c.loop-variable.variable-index c.args.variables.now ≡ [] = drop_all c.loop-variable.variable-index c.args.variables.now (omega arith) in
    let e : c.loop-variable.self ≡ bound_to c.args.variables.now c.args.registers.now c.args.self.now = ap (λ l. bound_to l (drop c.loop-variable.place c.args.registers.now) c.loop-variable.self) (sym past) ∙ c.loop-variable.invariant.1 in
    let_back c.args.variables.now c.args.registers.now _ _ e
