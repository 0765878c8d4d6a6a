-- The variables of the members of a program's facts are those that its functions capture.
use Rattle.std.proofs.Common.{◌≡◌, ◌⊎◌, ◌↔◌, ℕ, List, [], ◌∷◌, ◌++◌, length, Bool, true, false}
use Rattle.std.proofs.Common.{true≢false, refl, sym, ap, ◌∙◌, subst, inl, inr, ⊎_elim, eqb-true}
use Rattle.std.proofs.Common.{eq-eqb}
use Rattle.std.specs.Prelude.{◌==◌, ◌&&◌, if◌then◌else◌}
use Rattle.std.specs.List.{AllByRecursion, Contains, IsDistinct, flat_map}
use Rattle.std.proofs.lemmas.Bool.Decides.{eqb_tells}
use Rattle.hy_core.specs.Resolved.{FunctionTree}
use Rattle.capture_flow.specs.Least.{IsHad, is_member}
use Rattle.capture_flow.specs.declared.fact.Fact.{Fact}
use Rattle.capture_flow.specs.declared.fact.Member.{Member}
use Rattle.lifted_program.specs.Captured.{AreCaptured, IsDefined, IsFree}
use Rattle.lifted_program.proofs.Variables.{In, contained_in, in_contained}
use Rattle.captured_syntax.specs.CapturedBy.{captured_by, variable_if}
use Rattle.captured_facts.specs.Facts.{facts_of, first_place}
use Rattle.captured_facts.proofs.Exact.{Free, free_has, free_of, one}

abbrev variables_of : ℕ → List Member → List ℕ
variables_of f ms = flat_map (variable_if f) ms

-- a variable of a function is that of a member
from_member : (f : ℕ) (ms : List Member) (x : ℕ) → In x (variables_of f ms)
    → (m : Member) × In m ms × (m.function ≡ f) × (m.variable ≡ x)
from_member f [] x i = absurd i
from_member f (m ∷ ms) x i =
    by (m.function == f) refl i (λ k. from_member f ms x k)
  where
    later : ((n : Member) × In n ms × (n.function ≡ f) × (n.variable ≡ x))
        → (n : Member) × In n (m ∷ ms) × (n.function ≡ f) × (n.variable ≡ x)
    later n = (n.0, inr n.1, n.2, n.3)

    by : (b : Bool) → m.function == f ≡ b
        → In x ((if b then m.variable ∷ [] else []) ++ variables_of f ms)
        → (In x (variables_of f ms)
        → (n : Member) × In n ms × (n.function ≡ f) × (n.variable ≡ x))
        → (n : Member) × In n (m ∷ ms) × (n.function ≡ f) × (n.variable ≡ x)
    by true e (inl k) rest = (m, inl refl, eqb-true m.function f e, sym k)
    by true e (inr k) rest = later (rest k)
    by false e k rest = later (rest k)

of_member : (m : Member) (ms : List Member) → In m ms → In m.variable (variables_of m.function ms)
of_member m [] i = absurd i
of_member m (n ∷ ms) i = by (n.function == m.function) refl i (λ k. of_member m ms k)
  where
    by : (b : Bool) → n.function == m.function ≡ b → (m ≡ n) ⊎ In m ms
        → (In m ms → In m.variable (variables_of m.function ms))
        → In m.variable ((if b then n.variable ∷ [] else []) ++ variables_of m.function ms)
    by true e (inl k) rest = inl (ap (λ (m : Member). m.variable) k)
    by true e (inr k) rest = inr (rest k)
    by false e (inl k) rest =
        absurd (true≢false
        (sym (eq-eqb n.function m.function (ap (λ (m : Member). m.function) (sym k))) ∙ e))
    by false e (inr k) rest = rest k

member-itself : (m : Member) → is_member m m ≡ true
member-itself m =
    λ i. eq-eqb m.function m.function refl i
    && (eq-eqb m.variable m.variable refl i && eq-eqb m.place m.place refl i)

-- members of one function with one variable are the same
abbrev AreApart : List Member → Type 0
AreApart ms =
    (m n : Member) → In m ms → In n ms → m.function ≡ n.function → m.variable ≡ n.variable → m ≡ n

variable_once : (f : ℕ) (m : Member) (ns : List Member) → m.function ≡ f
    → ((n : Member) → In n ns → m.function ≡ n.function → m.variable ≡ n.variable → m ≡ n)
    → AllByRecursion (λ n. is_member m n ≡ false) ns
    → AllByRecursion (λ y. (m.variable == y) ≡ false) (variables_of f ns)
variable_once f m [] here apart h = tt
variable_once f m (n ∷ ns) here apart h =
    by (n.function == f) refl (variable_once f m ns here (λ k i. apart k (inr i)) h.1)
  where
    differ : n.function ≡ f → (m.variable == n.variable) ≡ false
    differ e =
        ⊎_elim
        (λ s. let same = apart n (inl refl) (here ∙ sym e) s.1 in
        absurd (true≢false (sym (member-itself m) ∙ ap (is_member m) same ∙ h.0)))
        (λ d. d.0) (eqb_tells m.variable n.variable)

    by : (b : Bool) → n.function == f ≡ b
        → AllByRecursion (λ y. (m.variable == y) ≡ false) (variables_of f ns)
        → AllByRecursion (λ y. (m.variable == y) ≡ false)
        ((if b then n.variable ∷ [] else []) ++ variables_of f ns)
    by true e rest = (differ (eqb-true n.function f e), rest)
    by false e rest = rest

variables_once : (f : ℕ) (ms : List Member) → AreApart ms → IsDistinct is_member ms
    → IsDistinct ◌==◌ (variables_of f ms)
unfolding IsDistinct
variables_once f [] apart h = tt
variables_once f (m ∷ ms) apart h =
    by (m.function == f) refl
    (variables_once f ms (λ k n i j. apart k n (inr i) (inr j)) h.1)
  where
    by : (b : Bool) → m.function == f ≡ b → IsDistinct ◌==◌ (variables_of f ms)
        → IsDistinct ◌==◌ ((if b then m.variable ∷ [] else []) ++ variables_of f ms)
    by true e rest = (
      variable_once f m ms (eqb-true m.function f e)
          (λ n i. apart m n (inl refl) (inr i)) h.0,
      rest,
    )
    by false e rest = rest

pub captures : (program : List FunctionTree) (fs : List Fact) (ms : List Member)
    → fs ≡ facts_of (length program) program
    → ((m : Member) → Contains ms m ↔ IsHad (Contains fs) m) → IsDistinct is_member ms
    → AreCaptured program (captured_by ms)
captures program fs ms is exact once = record {
  free = λ f x h.
      let v = from_member f ms x (contained_in x (variables_of f ms) h) in
      let m = v.0 in
      subst (λ f. IsFree program f x) v.2
      (subst (IsFree program m.function) v.3 (free m v.1).free);
  all = λ f x h.
      let v = free_has program (Contains fs)
      (λ u i. in_contained u fs (subst (In u) (sym is) i)) f x h in
      let m : Member = record { function = f; variable = x; place = v.0 } in
      in_contained x (variables_of f ms) (of_member m ms (contained_in m ms ((exact m).1 v.1)));
  once = λ f.
      variables_once f ms (λ m n i j e v. apart m n (free m i) (free n j) e v) once;
}
  where
    free : (m : Member) → In m ms → Free program m.function m.variable m.place
    free m i =
        free_of program (Contains fs) (λ u c. subst (In u) is (contained_in u fs c))
        ((exact m).0 (in_contained m ms i))

    apart : (m n : Member) → Free program m.function m.variable m.place
        → Free program n.function n.variable n.place → m.function ≡ n.function
        → m.variable ≡ n.variable → m ≡ n
    apart m n a b e v =
        let d = one program m.function a.definition b.definition a.at
        (subst (λ f. IsDefined program f b.definition) (sym e) b.at) in
        let p : m.place ≡ n.place =
        sym a.placed.0 ∙ (λ i. first_place (d i).scope (v i)) ∙ b.placed.0 in
        λ i. record { function = e i; variable = v i; place = p i }
