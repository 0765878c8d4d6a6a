-- Looking at nodes part by part.
use Rattle.std.proofs.Common.{◌≡◌, true, ℕ, suc, ◌+◌, List, [], ◌∷◌, ◌++◌, length, map, take, Option, Some, None, Result, refl, sym, ap, ◌∙◌, subst, arith}
use Rattle.std.specs.Prelude.{IsErrAnd}
use Rattle.hy_core.specs.Nodes.{APattern, Context, Node, Nodes, node, pattern_nodes, binding, guarding, inside}
use Rattle.hy_core.specs.declared.place.Place.TheVariants.{Anywhere, WholeGuard}
use Rattle.hy_core.specs.SubPatterns.{within, patterns_in}
use Rattle.hy_core.specs.declared.fault.Form.{Form}
use Rattle.hy_core.specs.declared.tree.Module.{Module}
use Rattle.hy_core.specs.declared.tree.Pattern.{Pattern}
use Rattle.core_walk.specs.declared.position.Position.{Position}
use Rattle.core_walk.specs.declared.position.Demand.{Demand}
use Rattle.core_walk.specs.declared.stop.Stop.{Stop}
use Rattle.core_walk.specs.declared.stop.Stop.TheVariants as stop
use Rattle.std.specs.declared.result.Result.TheVariants.{Ok, Err}
use Rattle.core_walk.specs.Walk.{Forms, Outcome, Passed, Fails, looked, walked, form_at, context_of, IsPassed, Reports, Walks}

-- behind what was passed
abbrev further : (Node → Option Form) → Outcome → List Node → Outcome
further check (Passed k) ns = walked check ns k
further check (Fails k form) ns = Fails k form

looked-further : (check : Node → Option Form) (o : Option Form) (k : ℕ) (later : Outcome) (ns : List Node) → looked o k (further check later ns) ≡ further check (looked o k later) ns
looked-further check None k later ns = refl
looked-further check (Some form) k later ns = refl

pub walked-append : (check : Node → Option Form) (xs ys : List Node) (k : ℕ) → walked check (xs ++ ys) k ≡ further check (walked check xs k) ys
walked-append check [] ys k = refl
walked-append check (x ∷ xs) ys k = ap (looked (check x) k) (walked-append check xs ys (suc k)) ∙ looked-further check (check x) k (walked check xs (suc k)) ys

-- the context is the same where nothing else is bound
pub same_context : {check : Node → Option Form} {ns : List Node} {before after : Position} (demand : Demand) → IsPassed check ns before after → context_of after demand ≡ context_of before demand
same_context demand h = λ i. record { scope = h.same_scope i; locals = h.same_locals i; needs = demand.needs; in_guard = demand.in_guard; place = demand.place }

-- a walk over the second part, behind the first
goes_on : (check : Node → Option Form) (xs ys : List Node) (r : Result (Unit {0}) Stop) (before middle after : Position) → IsPassed check xs before middle → Walks r check ys middle after → Walks r check (xs ++ ys) before after
goes_on check xs ys (Ok x) before middle after h k = record {
  passed = walked-append check xs ys before.node ∙ ap (λ o. further check o ys) h.passed ∙ k.passed;
  same_scope = k.same_scope ∙ h.same_scope;
  same_locals = k.same_locals ∙ h.same_locals;
}
goes_on check xs ys (Err (stop.Found found)) before middle after h k = walked-append check xs ys before.node ∙ ap (λ o. further check o ys) h.passed ∙ k
goes_on check xs ys (Err stop.Memory) before middle after h k = tt

-- the next part in the same context
pub then_part : {check : Node → Option Form} {xs : List Node} {before middle : Position} (part : Nodes) (demand : Demand) (r : Result (Unit {0}) Stop) (after : Position)
    → IsPassed check xs before middle → Walks r check (part (context_of middle demand)) middle after → Walks r check (xs ++ part (context_of before demand)) before after
then_part {check = check} {xs = xs} {before = before} {middle = middle} part demand r after h w =
    goes_on check xs (part (context_of before demand)) r before middle after h (subst (λ c. Walks r check (part c) middle after) (same_context demand h) w)

-- the same nodes
pub over_same : (check : Node → Option Form) (xs ns : List Node) (r : Result (Unit {0}) Stop) (before after : Position) → ns ≡ xs → Walks r check xs before after → Walks r check ns before after
over_same check xs ns r before after same w = subst (λ ms. Walks r check ms before after) (sym same) w

stops : (check : Node → Option Form) (xs ys : List Node) (s : Stop) (k : ℕ) → Reports s (walked check xs k) → Reports s (walked check (xs ++ ys) k)
stops check xs ys (stop.Found found) k h = walked-append check xs ys k ∙ ap (λ o. further check o ys) h
stops check xs ys stop.Memory k h = tt

-- a walk that stops in the first part
pub stops_in : (check : Node → Option Form) (xs ys ns : List Node) (r : Result (Unit {0}) Stop) (s : Stop) (before after : Position) → ns ≡ xs ++ ys → IsErrAnd r (λ e. e ≡ s) → Reports s (walked check xs before.node) → Walks r check ns before after
stops_in check xs ys ns (Ok x) s before after same is h = absurd is
stops_in check xs ys ns (Err e) s before after same is h =
    subst (λ k. Reports e (walked check k before.node)) (sym same) (stops check xs ys e before.node (subst (λ k. Reports k (walked check xs before.node)) (sym is) h))

-- patterns that aren't the first of their clause never fail
pub walked-patterns : (forms : Forms) (m : Module) (c : Context) (qs : List Pattern) (k : ℕ)
    → walked (form_at forms m) (map (λ q. node (APattern q) c) qs) k ≡ Passed (k + length qs)
walked-patterns forms m c [] k = ap Passed (omega arith)
walked-patterns forms m c (q ∷ qs) k = walked-patterns forms m c qs (suc k) ∙ ap Passed (omega arith)

-- nodes that are passed before those that the answer tells of
pub passed-then : (check : Node → Option Form) (xs ys : List Node) (k j i : ℕ) → walked check xs k ≡ Passed j → walked check ys j ≡ Passed i → walked check (xs ++ ys) k ≡ Passed i
passed-then check xs ys k j i p q = walked-append check xs ys k ∙ ap (λ o. further check o ys) p ∙ q

pub reports-then : (check : Node → Option Form) (xs ys : List Node) (s : Stop) (k j : ℕ) → walked check xs k ≡ Passed j → Reports s (walked check ys j) → Reports s (walked check (xs ++ ys) k)
reports-then check xs ys (stop.Found found) k j p q = walked-append check xs ys k ∙ ap (λ o. further check o ys) p ∙ q
reports-then check xs ys stop.Memory k j p q = tt

take-append : {A : Type 0} (xs ys : List A) → take (length xs) (xs ++ ys) ≡ xs
take-append [] ys = refl
take-append (x ∷ xs) ys = ap (λ zs. x ∷ zs) (take-append xs ys)

-- what was bound further is left
pub left : {A : Type 0} (xs ys bound : List A) (depth : ℕ) → depth ≡ length xs → bound ≡ xs ++ ys → take depth bound ≡ xs
left xs ys bound depth d b = ap (λ n. take n bound) d ∙ ap (take (length xs)) b ∙ take-append xs ys

-- the patterns of a clause are passed where their form is none
pub patterns-passed : (forms : Forms) (m : Module) (c : Context) (ps : List Pattern) (k j : ℕ)
    → forms.of_patterns ps ≡ None → j ≡ k + length (patterns_in ps) → walked (form_at forms m) (pattern_nodes ps c) k ≡ Passed j
patterns-passed forms m c [] k j none to = ap Passed (omega (arith, to))
patterns-passed forms m c (p ∷ ps) k j none to =
    ap (λ o. looked o k (walked (form_at forms m) (map (λ q. node (APattern q) c) (within p ++ patterns_in ps)) (suc k))) none
    ∙ walked-patterns forms m c (within p ++ patterns_in ps) (suc k)
    ∙ ap Passed (omega (arith, to))

-- the contexts of the guard and of the body of a clause, behind its patterns
pub guard_context : {check : Node → Option Form} {ns : List Node} {before after : Position} (demand guard : Demand) (scope variables : List ℕ) → IsPassed check ns before after → scope ≡ after.scope ++ variables
    → guard ≡ record { needs = 1; in_guard = true; place = WholeGuard } → context_of (record after { scope = scope }) guard ≡ guarding variables (context_of before demand)
guard_context demand guard scope variables h bound is =
    let scopes = bound ∙ ap (λ s. s ++ variables) h.same_scope in
    λ i. record { scope = scopes i; locals = h.same_locals i; needs = (is i).needs; in_guard = (is i).in_guard; place = (is i).place }

pub body_context : {check : Node → Option Form} {ns : List Node} {before after : Position} (demand : Demand) (at : Position) (scope variables : List ℕ) → IsPassed check ns before after → scope ≡ after.scope ++ variables
    → at.scope ≡ scope → at.locals ≡ after.locals → inside (context_of at demand) ≡ binding variables (context_of before demand)
body_context demand at scope variables h bound same_scope same_locals =
    let scopes = same_scope ∙ bound ∙ ap (λ s. s ++ variables) h.same_scope in
    let locals = same_locals ∙ h.same_locals in
    λ i. record { scope = scopes i; locals = locals i; needs = demand.needs; in_guard = demand.in_guard; place = Anywhere }
