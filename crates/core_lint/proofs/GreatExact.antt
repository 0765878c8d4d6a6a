-- The check for definitions with too great an arity finds one exactly where there is one.
use Rattle.std.proofs.Common.{◌≡◌, ℕ, zero, suc, ◌<◌, ◌⊎◌, ◌||◌, inl, inr, Bool, true, false, List, [], ◌∷◌, length, map, slice_get, Option, Some, None, refl, sym, ap, ◌∙◌, subst, arith, ltb-true, lt-ltb}
use Rattle.std.proofs.lemmas.List.Elements.{Contains-append_left, Contains-append_right, Contains-append_cases}
use Rattle.std.proofs.lemmas.List.Folds.{list_any_at}
use Rattle.std.proofs.lemmas.Option.{get_or_from_slice_get, slice_get_read, slice_get_within}
use Rattle.std.specs.List.{Contains}
use Rattle.std.specs.Prelude.{◌↔◌, IfOk, IsTrue, Result, is_some}
use Rattle.std.specs.declared.result.Result.TheVariants.{Ok, Err}
use Rattle.hy_terms.specs.declared.memory.Memory.{Memory}
use Rattle.hy_core.specs.Faults.{Defines, top, local, IsTooGreat, arity, fault, IsGivenFunction}
use Rattle.hy_core.specs.Nodes.{Piece, AnExpr, APattern, FirstPattern, Context, Node, node, nodes_of}
use Rattle.hy_core.specs.SubPatterns.{joined}
use Rattle.hy_core.specs.Tables.{definitions_at, definitions_layer}
use Rattle.hy_core.specs.declared.fault.Form.{Form}
use Rattle.hy_core.specs.declared.fault.Form.TheVariants.{Absent, Arity}
use Rattle.hy_core.specs.declared.fault.LintFault.{LintFault}
use Rattle.hy_core.specs.declared.tree.Expr.TheViews.{out-Expr}
use Rattle.hy_core.specs.declared.tree.Function.{Function}
use Rattle.hy_core.specs.declared.tree.Module.{Module}
use Rattle.hy_core.specs.declared.tree.Program.{Program}
use Rattle.core_walk.specs.First.{IsFirst, IsShown, by_function, by_node, first_in_modules}
use Rattle.core_lint.specs.code.GreatArity.{HasGreat, any_is_great, great, is_great}
use Rattle.core_walk.specs.Walk.{form_at, form_if}
use Rattle.core_walk.proofs.FirstLemmas.{first_shown}
use Rattle.core_lint.proofs.RepeatedExact.{form_if-Some}

get-Contains : {A : Type 0} (xs : List A) (k : ℕ) (x : A) → slice_get xs k ≡ Some x → Contains xs x
get-Contains xs k x at = (k, slice_get_within xs k x at, get_or_from_slice_get xs k x x at)

Contains-get : {A : Type 0} (xs : List A) (x : A) (h : Contains xs x) → slice_get xs h.0 ≡ Some x
Contains-get xs x h = slice_get_read xs (length xs) h.0 x refl h.1 (sym h.2)

-- an element of one of the lists
module _ {A B : Type 0} (f : A → List B) (y : B) where
  joined-from : (xs : List A) → Contains (joined (map f xs)) y → (k : ℕ) × (x : A) × (slice_get xs k ≡ Some x) × Contains (f x) y
  joined-from [] h = absurd (omega (arith, h.1))
  joined-from (x ∷ xs) h = by (Contains-append_cases (f x) (joined (map f xs)) y h) (joined-from xs)
    where
      by : Contains (f x) y ⊎ Contains (joined (map f xs)) y → (Contains (joined (map f xs)) y → (k : ℕ) × (z : A) × (slice_get xs k ≡ Some z) × Contains (f z) y) → (k : ℕ) × (z : A) × (slice_get (x ∷ xs) k ≡ Some z) × Contains (f z) y
      by (inl here) rest = (0, x, refl, here)
      by (inr later) rest = let r = rest later in (suc r.0, r.1, r.2, r.3)

  joined-to : (xs : List A) (k : ℕ) (x : A) → slice_get xs k ≡ Some x → Contains (f x) y → Contains (joined (map f xs)) y
  joined-to [] k x at h = absurd cc
  joined-to (z ∷ xs) zero x at h = let s : x ≡ z = cc in Contains-append_left (f z) (joined (map f xs)) y (subst (λ w. Contains (f w) y) s h)
  joined-to (z ∷ xs) (suc k) x at h = Contains-append_right (f z) (joined (map f xs)) y (joined-to xs k x at h)

any-from : (fs : List Function) → any_is_great fs ≡ true → (f : Function) × Contains fs f × (255 < f.name.arity)
any-from [] e = absurd cc
any-from (f ∷ fs) e = by (is_great f) refl e (any-from fs)
  where
    by : (b : Bool) → is_great f ≡ b → (b || any_is_great fs) ≡ true → (any_is_great fs ≡ true → (g : Function) × Contains fs g × (255 < g.name.arity)) → (g : Function) × Contains (f ∷ fs) g × (255 < g.name.arity)
    by true p e later = (f, (0, omega arith, refl), ltb-true 255 f.name.arity p)
    by false p e later = let h = later e in (h.0, (suc h.1.0, omega (arith, h.1.1), h.1.2), h.2)

any-to : (fs : List Function) (f : Function) → Contains fs f → 255 < f.name.arity → any_is_great fs ≡ true
any-to fs f h above = list_any_at is_great fs h.0 f h.1 (ap is_great h.2 ∙ lt-ltb 255 f.name.arity above)

shown_at : (m : Module) (piece : Piece) (c : Context) (form : Form) → form_at great m (node piece c) ≡ Some form → any_is_great (definitions_at piece) ≡ true
shown_at m (AnExpr x) c form e = (form_if-Some (any_is_great (definitions_layer (out-Expr x))) form e).0
shown_at m (APattern p) c form e = absurd cc
shown_at m (FirstPattern ps) c form e = absurd cc

at_shown : (m : Module) (piece : Piece) (c : Context) (g : Function) → Contains (definitions_at piece) g → 255 < g.name.arity → form_at great m (node piece c) ≡ Some Absent
at_shown m (AnExpr x) c g h above = ap form_if (any-to (definitions_layer (out-Expr x)) g h above)
at_shown m (APattern p) c g h above = absurd (omega (arith, h.1))
at_shown m (FirstPattern ps) c g h above = absurd (omega (arith, h.1))

module _ (kind : ℕ) (program : Program) where
  shown-is : (x : LintFault) → IsShown great program kind x → HasGreat program.given
  shown-is x (by_function {i = i} {j = j} {m = m} {f = f} around e) = record {
    m = m;
    f = f;
    stands = get-Contains program.given i m around.given;
    defines = top (get-Contains m.functions j f around.defined);
    is_great = ltb-true 255 f.name.arity e;
  }
  shown-is x (by_node {i = i} {j = j} {k = k} {m = m} {n = n} {form = form} stands e) =
      let r = any-from (definitions_at n.piece) (shown_at m n.piece n.context form e) in
      record {
        m = m;
        f = r.0;
        stands = get-Contains program.given i m stands.around.given;
        defines = local (get-Contains m.functions j stands.f stands.around.defined) (joined-to (λ (n : Node). definitions_at n.piece) r.0 (nodes_of stands.f) k n stands.stands r.1);
        is_great = r.2;
      }

  is-shown : HasGreat program.given → (x : LintFault) × IsShown great program kind x
  is-shown h = by h.defines
    where
      around : (f : Function) (k : Contains h.m.functions f) → IsGivenFunction program h.stands.0 k.0 h.m f
      around f k = record { given = Contains-get program.given h.m h.stands; defined = Contains-get h.m.functions f k }

      by : Defines h.m h.f → (x : LintFault) × IsShown great program kind x
      by (top k) = (fault kind h.stands.0 k.0 0, by_function (around h.f k) (lt-ltb 255 h.f.name.arity h.is_great))
      by (local {f = f} k l) =
          let r = joined-from (λ (n : Node). definitions_at n.piece) h.f (nodes_of f) l in
          (fault kind h.stands.0 k.0 r.0, by_node (record { f = f; around = around f k; stands = r.2 }) (at_shown h.m r.1.piece r.1.context h.f r.3 h.is_great))

-- the check answers a fault exactly where a module has such a definition
great_exact : (kind : ℕ) (ms : List Module) → IsTrue (is_some (first_in_modules great kind 0 ms)) ↔ HasGreat ms
great_exact kind ms = by (first_in_modules great kind 0 ms) (first_shown great kind program)
  where
    program : Program
    program = record { given = ms; prelude = [] }

    by : (o : Option LintFault) → IsFirst (IsShown great program kind) o → IsTrue (is_some o) ↔ HasGreat ms
    by None h = (λ e. absurd cc, λ g. let r = is-shown kind program g in absurd (h r.0 r.1))
    by (Some x) h = (λ e. shown-is kind program x h.0, λ g. refl)

pub great_found : (kind : ℕ) (ms : List Module) (o : Option LintFault) (b : Bool) → o ≡ first_in_modules great kind 0 ms → b ≡ is_some o → IsTrue b ↔ HasGreat ms
great_found kind ms o b is found = subst (λ b. IsTrue b ↔ HasGreat ms) (sym (found ∙ ap is_some is)) (great_exact kind ms)

-- the definitions of a program are those of its given modules and of its prelude
pub great_in : (program : Program) → HasGreat program.given ⊎ HasGreat program.prelude → IsTooGreat program Arity
great_in program (inl h) = arity (Contains-append_left program.given program.prelude h.m h.stands) h.defines h.is_great
great_in program (inr h) = arity (Contains-append_right program.given program.prelude h.m h.stands) h.defines h.is_great

pub in_great : (program : Program) → IsTooGreat program Arity → HasGreat program.given ⊎ HasGreat program.prelude
in_great program h = of_form Arity h refl
  where
    either : (m : Module) (f : Function) → Contains program.given m ⊎ Contains program.prelude m → Defines m f → 255 < f.name.arity → HasGreat program.given ⊎ HasGreat program.prelude
    either m f (inl stands) defines above = inl (record { m = m; f = f; stands = stands; defines = defines; is_great = above })
    either m f (inr stands) defines above = inr (record { m = m; f = f; stands = stands; defines = defines; is_great = above })

    of_form : (form : Form) → IsTooGreat program form → form ≡ Arity → HasGreat program.given ⊎ HasGreat program.prelude
    of_form form (arity {m = m} {f = f} stands defines above) e = either m f (Contains-append_cases program.given program.prelude m stands) defines above
    of_form form _ e = absurd cc

-- where no given module has one, the modules of the prelude decide
pub prelude_decides : (program : Program) (ms : List Module) (r : Result Bool Memory) → ms ≡ program.prelude → (HasGreat program.given → ⊥) → IfOk r (λ found. IsTrue found ↔ HasGreat ms) → IfOk r (λ found. IsTrue found ↔ IsTooGreat program Arity)
prelude_decides program ms (Err e) is none h = tt
prelude_decides program ms (Ok found) is none h = (λ t. great_in program (inr (subst HasGreat is (h.0 t))), λ g. by (in_great program g))
  where
    by : HasGreat program.given ⊎ HasGreat program.prelude → IsTrue found
    by (inl given) = absurd (none given)
    by (inr prelude) = h.1 (subst HasGreat (sym is) prelude)
