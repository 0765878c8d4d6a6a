-- The table of names, as functions are entered and left.
use Rattle.std.proofs.Common.{◌≡◌, ℕ, ◌==◌, ◌&&◌, Bool, true, false, List, [], ◌∷◌, ◌++◌, reverse}
use Rattle.std.proofs.Common.{Option, Some, None, unwrap_or, cond, refl, ap, ◌∙◌}
use Rattle.std.proofs.Common.{eq-eqb, eqb-true, suc, ◌+◌, ◌-◌, ◌<◌, length, drop, length-drop}
use Rattle.std.proofs.Common.{arith}
use Rattle.std.specs.Prelude.{if◌then◌else◌, is_some}
use Rattle.std.specs.Option.{IsSome}
use Rattle.std.specs.Map.{lookup}
use Rattle.std.proofs.lemmas.List.{reverse-append, length-reverse, drop-drop}
use Rattle.hy_core.specs.Resolved.{is_name}
use Rattle.hy_core.specs.declared.tree.FunName.{FunName}
use Rattle.indexmap.specs.IndexMap.{IndexMap, Updates, get}
use Rattle.lifted_program.specs.LetrecNumbers.{number_in}
use Rattle.letrec_names.specs.code.Entries.{Key, is_key, key_of, number_at, reach_in}
use Rattle.letrec_names.specs.code.Entries.{HasNumbers}
use Rattle.letrec_names.specs.declared.names.Entry.{Entry}

-- the test of names is their equality
name_is : (g f : FunName) → is_name g f ≡ true → g ≡ f
name_is g f e = by (g.name == f.name) refl (g.arity == f.arity) refl e
  where
    by : (a : Bool) → (g.name == f.name) ≡ a → (b : Bool) → (g.arity == f.arity) ≡ b
        → (a && b) ≡ true → g ≡ f
    by true p true q h =
        let names = eqb-true g.name f.name p in
        let arities = eqb-true g.arity f.arity q in
        λ i. record { name = names i; arity = arities i }
    by true p false q h = absurd cc
    by false p b q h = absurd cc

own_name : (g : FunName) → is_name g g ≡ true
own_name g = λ i. eq-eqb g.name g.name refl i && eq-eqb g.arity g.arity refl i

-- a table in which the number of a name is another
pub number_set : {S : Type 0} (old new : IndexMap Key (Option ℕ) S) (g : FunName) (key : Key)
    (n : Option ℕ) → key ≡ key_of g → Updates is_key old new key (Some n) → (f : FunName)
    → number_at new f ≡ (if is_name g f then n else number_at old f)
number_set old new g key n is u f =
    ap (λ o. unwrap_or o None) (u.0 (key_of f))
    ∙ ap (λ k. unwrap_or (cond (is_key k (key_of f)) (Some n) (get is_key old (key_of f))) None) is
    ∙ chosen (is_name g f) (get is_key old (key_of f))
  where
    chosen : (b : Bool) (o : Option (Option ℕ))
        → unwrap_or (cond b (Some n) o) None ≡ (if b then n else unwrap_or o None)
    chosen true o = refl
    chosen false o = refl

-- the number that is found at a name
pub number_read : {S : Type 0} (numbers : IndexMap Key (Option ℕ) S) (g : FunName) (key : Key)
    (n : Option ℕ) → key ≡ key_of g → Some n ≡ get is_key numbers key → n ≡ number_at numbers g
number_read numbers g key n is found =
    ap (λ o. unwrap_or o None) found ∙ ap (λ k. unwrap_or (get is_key numbers k) None) is

-- a table whose entries stay
pub numbers_kept : {S : Type 0} (old new : IndexMap Key (Option ℕ) S) (es : List Entry)
    → new.entries ≡ old.entries → HasNumbers old es → HasNumbers new es
numbers_kept old new es same h = record {
  at = λ f. ap (λ l. unwrap_or (lookup (is_key (key_of f)) l) None) same ∙ h.at f;
  hidden = h.hidden;
}

pub entered : {S : Type 0} (numbers more : IndexMap Key (Option ℕ) S) (es : List Entry) (e : Entry)
    → HasNumbers numbers es → e.around ≡ number_at numbers e.name
    → ((f : FunName)
    → number_at more f ≡ (if is_name e.name f then Some e.number else number_at numbers f))
    → HasNumbers more (e ∷ es)
entered numbers more es e h around now = record {
  at = λ f. now f ∙ ap (λ o. if is_name e.name f then Some e.number else o) (h.at f);
  hidden = (around ∙ h.at e.name, h.hidden);
}

pub left : {S : Type 0} (numbers fewer : IndexMap Key (Option ℕ) S) (es : List Entry) (e : Entry)
    → HasNumbers numbers (e ∷ es)
    → ((f : FunName)
    → number_at fewer f ≡ (if is_name e.name f then e.around else number_at numbers f))
    → HasNumbers fewer es
left numbers fewer es e h now = record {
  at = λ f. now f ∙ by f (is_name e.name f) refl;
  hidden = h.hidden.1;
}
  where
    by : (f : FunName) (b : Bool) → is_name e.name f ≡ b
        → (if b then e.around else number_at numbers f) ≡ number_in (reach_in es) f
    by f true k = h.hidden.0 ∙ ap (number_in (reach_in es)) (name_is e.name f k)
    by f false k =
        h.at f
        ∙ ap (λ b. if b then Some e.number else number_in (reach_in es) f) k

-- the innermost one is in the table
pub innermost : {S : Type 0} (numbers : IndexMap Key (Option ℕ) S) (es : List Entry) (e : Entry)
    → HasNumbers numbers (e ∷ es) → IsSome (number_at numbers e.name)
innermost numbers es e h =
    let there : number_at numbers e.name ≡ Some e.number =
    h.at e.name
    ∙ ap (λ b. if b then Some e.number else number_in (reach_in es) e.name) (own_name e.name) in
    ap is_some there

pub last_first : (es : List Entry) (e : Entry) → reverse (es ++ e ∷ []) ≡ e ∷ reverse es
last_first es e = reverse-append es (e ∷ [])

-- the innermost is left, while there are too many
pub back_step : {A : Type 0} (b b' : List A) (d n : ℕ) → n ≡ length b → d < n → b' ≡ drop 1 b
    → drop (length b' - d) b' ≡ drop (length b - d) b
back_step b b' d n e lt h =
    let l : length b' ≡ length b - 1 = ap length h ∙ length-drop 1 b in
    let m : 1 + (length b' - d) ≡ length b - d = omega (arith, e, lt, l) in
    ap (drop (length b' - d)) h ∙ drop-drop (length b' - d) 1 b ∙ ap (λ k. drop k b) m

reach_length : (es : List Entry) → length (reach_in es) ≡ length es
reach_length [] = refl
reach_length (e ∷ es) = ap suc (reach_length es)

pub height_is : (es : List Entry) → length (reach_in (reverse es)) ≡ length es
height_is es = reach_length (reverse es) ∙ length-reverse es
