-- A program's own counts tell how many functions stand in the body of each.
use Rattle.std.proofs.Common.{◌≡◌, ℕ, suc, ◌+◌, ◌-◌, ◌≤◌, List, [], ◌∷◌, ◌++◌, length, get_or}
use Rattle.std.proofs.Common.{refl, sym, ap, ◌∙◌, arith, append_assoc, length-append}
use Rattle.std.proofs.Common.{Bool, true, false, subst}
use Rattle.std.specs.Prelude.{nat_le, if◌then◌else◌}
use Rattle.std.proofs.lemmas.Bool.{le-leb}
use Rattle.std.proofs.lemmas.List.{append-nil, get_or_at}
use Rattle.hy_core.specs.Numbered.{function_count}
use Rattle.hy_core.specs.Syntax as s
use Rattle.hy_core.specs.Syntax.{Syntax, Syntaxes, NoSyntax, MoreSyntax, syntax_of}
use Rattle.hy_core.specs.Syntax.{Clauses, NoClauses, MoreClauses}
use Rattle.hy_core.specs.Syntax.{Definitions, NoDefinitions, MoreDefinitions}
use Rattle.hy_core.specs.declared.tree.Function.{Function}
use Rattle.hy_core.specs.declared.tree.Module.{Module}
use Rattle.lifted_syntax.specs.ExtractedSyntax.{count_module}
use Rattle.lifted_syntax.specs.LiftedSyntax.{count, count_all, count_clauses, count_definitions}
use Rattle.lifted_syntax.specs.LiftedSyntax.{reach_of}
use Rattle.letrec_names.specs.CountsGiven.{Gives, GivesAll, GivesClauses, GivesDefinitions}
use Rattle.letrec_names.specs.CountsGiven.{GivesFunctions, GivesModules}
use Rattle.letrec_names.specs.NestedCounts.{Counts, within, numbered, program_counts}
use Rattle.letrec_names.specs.NestedCounts.{nested_counts, nested_counts_all}
use Rattle.letrec_names.specs.NestedCounts.{nested_counts_clauses, nested_counts_definitions}
use Rattle.letrec_names.specs.NestedCounts.{nested_counts_functions, nested_counts_modules}
use Rattle.letrec_names.proofs.Passing.{counts_length, all_length, clauses_length}
use Rattle.letrec_names.proofs.Passing.{definitions_length}

-- the numbers of the functions of a letrec
pub numbered_is : (c : Counts) (n : ℕ) (fs : Definitions) → GivesDefinitions c n fs
    → numbered c n fs ≡ reach_of n fs
numbered_is c n NoDefinitions h = refl
numbered_is c n (MoreDefinitions f xs b fs) h =
    ap (λ k. (f, n) ∷ numbered c (suc (n + k)) fs) h.0
    ∙ ap (λ r. (f, n) ∷ r) (numbered_is c (suc (n + count b)) fs h.2)

-- these stand behind others, and further ones behind them
record Behind (c : Counts) (n : ℕ) (part : List ℕ) : Type 0 where
  front : List ℕ
  rest : List ℕ
  whole : c.counts ≡ front ++ (part ++ rest)
  place : n ≡ c.first + length front

functions_length : (fs : List Function) → length (nested_counts_functions fs) ≡ count_module fs
functions_length [] = refl
functions_length (f ∷ fs) =
    let l = length-append (nested_counts (syntax_of f.body)) (nested_counts_functions fs) in
    let own = counts_length (syntax_of f.body) in
    let others = functions_length fs in
    omega (arith, l, own, others)

sum_suc : (n k : ℕ) → suc n + k ≡ suc (n + k)
sum_suc n k = omega arith

module _ {c : Counts} where
  first_part : {n : ℕ} (a b : List ℕ) → Behind c n (a ++ b) → Behind c n a
  first_part a b h = record {
    front = h.front;
    rest = b ++ h.rest;
    whole = h.whole ∙ ap (λ l. h.front ++ l) (append_assoc a b h.rest);
    place = h.place;
  }

  second_part : {n : ℕ} (a b : List ℕ) (k : ℕ) → length a ≡ k → Behind c n (a ++ b)
      → Behind c (n + k) b
  second_part a b k l h =
      let more = length-append h.front a in
      let place = h.place in
      record {
        front = h.front ++ a;
        rest = h.rest;
        whole =
            h.whole ∙ ap (λ l. h.front ++ l) (append_assoc a b h.rest)
            ∙ sym (append_assoc h.front a (b ++ h.rest));
        place = omega (arith, l, more, place);
      }

  own_count : {n : ℕ} (k : ℕ) (part : List ℕ) → Behind c n (k ∷ part) → within c n ≡ k
  own_count {n} k part h =
      let place = h.place in
      let below : c.first ≤ n = omega (arith, place) in
      let index : length h.front ≡ n - c.first = omega (arith, place) in
      chosen (nat_le c.first n) (le-leb c.first n below)
      (ap (λ l. get_or l (n - c.first) 0) h.whole
      ∙ get_or_at h.front k (part ++ h.rest) 0 (n - c.first) index)
    where
      chosen : (b : Bool) {x : ℕ} → b ≡ true → x ≡ k → (if b then x else 0) ≡ k
      chosen true e h = h
      chosen false e h = absurd cc

  inner_part : {n : ℕ} (k : ℕ) (part : List ℕ) → Behind c n (k ∷ part) → Behind c (suc n) part
  inner_part {n} k part h =
      let more = length-append h.front (k ∷ []) in
      let place = h.place in
      record {
        front = h.front ++ k ∷ [];
        rest = h.rest;
        whole = h.whole ∙ sym (append_assoc h.front (k ∷ []) (part ++ h.rest));
        place = omega (arith, more, place);
      }

  moved : {n m : ℕ} (part : List ℕ) → n ≡ m → Behind c n part → Behind c m part
  moved part e h = subst (λ n. Behind c n part) e h

  mutual
    gives : (e : Syntax) (n : ℕ) → Behind c n (nested_counts e) → Gives c n e
    gives (s.Int v) n h = _
    gives (s.Atom a) n h = _
    gives s.Nil n h = _
    gives (s.Str text) n h = _
    gives (s.Var x) n h = _
    gives (s.Name f) n h = _
    gives (s.Tuple site es) n h = gives_all es n h
    gives (s.ListOf site es e) n h =
        let a = nested_counts_all es in
        let b = nested_counts e in (
          gives_all es n (first_part a b h),
          gives e (n + count_all es) (second_part a b (count_all es) (all_length es) h),
        )
    gives (s.Values es) n h = gives_all es n h
    gives (s.Let xs e b) n h =
        let p = nested_counts e in
        let q = nested_counts b in (
          gives e n (first_part p q h),
          gives b (n + count e) (second_part p q (count e) (counts_length e) h),
        )
    gives (s.Do e b) n h =
        let p = nested_counts e in
        let q = nested_counts b in (
          gives e n (first_part p q h),
          gives b (n + count e) (second_part p q (count e) (counts_length e) h),
        )
    gives (s.Case e cs) n h =
        let p = nested_counts e in
        let q = nested_counts_clauses cs in (
          gives e n (first_part p q h),
          gives_clauses cs (n + count e) (second_part p q (count e) (counts_length e) h),
        )
    gives (s.Letrec fs e) n h =
        let p = nested_counts_definitions fs in
        let q = nested_counts e in
        let k = count_definitions fs in (
          gives_definitions fs n (first_part p q h),
          gives e (n + k) (second_part p q k (definitions_length fs) h),
        )
    gives (s.Apply e es) n h = gives_all es n h
    gives (s.Call m f es) n h = gives_all es n h
    gives (s.Primop a es) n h = gives_all es n h
    gives (s.Receive cs t e) n h =
        let p = nested_counts_clauses cs in
        let q = nested_counts e in
        let k = count_clauses cs in (
          gives_clauses cs n (first_part p q h),
          gives e (n + k) (second_part p q k (clauses_length cs) h),
        )
    gives (s.Try e xs b ys d) n h = gives e n h
    gives (s.Catch e) n h = _
    gives (s.Fun xs e) n h = _

    gives_all : (es : Syntaxes) (n : ℕ) → Behind c n (nested_counts_all es) → GivesAll c n es
    gives_all NoSyntax n h = _
    gives_all (MoreSyntax e es) n h =
        let p = nested_counts e in
        let q = nested_counts_all es in (
          gives e n (first_part p q h),
          gives_all es (n + count e) (second_part p q (count e) (counts_length e) h),
        )

    gives_clauses : (cs : Clauses) (n : ℕ) → Behind c n (nested_counts_clauses cs)
        → GivesClauses c n cs
    gives_clauses NoClauses n h = _
    gives_clauses (MoreClauses ps g b cs) n h =
        let p = nested_counts g in
        let q = nested_counts b in
        let r = nested_counts_clauses cs in
        let behind = second_part p (q ++ r) (count g) (counts_length g) h in
        let m = n + count g in (
          gives g n (first_part p (q ++ r) h),
          gives b m (first_part q r behind),
          gives_clauses cs (m + count b) (second_part q r (count b) (counts_length b) behind),
        )

    gives_definitions : (fs : Definitions) (n : ℕ) → Behind c n (nested_counts_definitions fs)
        → GivesDefinitions c n fs
    gives_definitions NoDefinitions n h = _
    gives_definitions (MoreDefinitions f xs b fs) n h =
        let q = nested_counts b in
        let r = nested_counts_definitions fs in
        let inner = inner_part (count b) (q ++ r) h in (
          own_count (count b) (q ++ r) h,
          gives b (suc n) (first_part q r inner),
          gives_definitions fs (suc (n + count b))
              (moved r (sum_suc n (count b)) (second_part q r (count b) (counts_length b) inner)),
        )

  gives_functions : (fs : List Function) (n : ℕ) → Behind c n (nested_counts_functions fs)
      → GivesFunctions c n fs
  gives_functions [] n h = _
  gives_functions (f ∷ fs) n h =
      let e = syntax_of f.body in
      let p = nested_counts e in
      let q = nested_counts_functions fs in (
        gives e n (first_part p q h),
        gives_functions fs (n + count e) (second_part p q (count e) (counts_length e) h),
      )

  gives_modules : (ms : List Module) (n : ℕ) → Behind c n (nested_counts_modules ms)
      → GivesModules c n ms
  gives_modules [] n h = _
  gives_modules (m ∷ ms) n h =
      let fs = m.functions in
      let p = nested_counts_functions fs in
      let q = nested_counts_modules ms in (
        gives_functions fs n (first_part p q h),
        gives_modules ms (n + count_module fs)
            (second_part p q (count_module fs) (functions_length fs) h),
      )

pub program_given : (ms : List Module) → GivesModules (program_counts ms) (function_count ms) ms
program_given ms =
    gives_modules ms (function_count ms) (record {
      front = [];
      rest = [];
      whole = sym (append-nil (nested_counts_modules ms));
      place = omega arith;
    })
