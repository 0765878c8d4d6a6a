-- Counts that are put behind others are the counts of the text.
use Rattle.std.proofs.Common.{◌≡◌, ℕ, suc, ◌+◌, ◌-◌, List, [], ◌∷◌, ◌++◌, length, set}
use Rattle.std.proofs.Common.{refl, sym, ap, ◌∙◌, arith, append_assoc, length-append}
use Rattle.std.proofs.lemmas.List.{append-nil}
use Rattle.std.proofs.Math.Seq.{set-append_seam}
use Rattle.hy_core.specs.Syntax as s
use Rattle.hy_core.specs.Syntax.{Syntax, Syntaxes, NoSyntax, MoreSyntax, syntax_of}
use Rattle.hy_core.specs.Syntax.{Clauses, NoClauses, MoreClauses}
use Rattle.hy_core.specs.Syntax.{Definitions, NoDefinitions, MoreDefinitions}
use Rattle.hy_core.specs.Syntax.{ClauseSyntax, DefinitionSyntax, clauses_of, definitions_of}
use Rattle.hy_core.specs.declared.tree.Function.{Function}
use Rattle.hy_core.specs.declared.tree.Module.{Module}
use Rattle.lifted_syntax.specs.LiftedSyntax.{count, count_all, count_clauses, count_definitions}
use Rattle.letrec_names.specs.NestedCounts.{nested_counts, nested_counts_all}
use Rattle.letrec_names.specs.NestedCounts.{nested_counts_clauses, nested_counts_definitions}
use Rattle.letrec_names.specs.NestedCounts.{nested_counts_functions, nested_counts_modules}
use Rattle.letrec_names.specs.code.Passed.{finished, passed, passed_all, passed_clauses}
use Rattle.letrec_names.specs.code.Passed.{passed_definitions, passed_functions, passed_modules}

-- there are as many as functions
sum : (xs ys : List ℕ) {n m : ℕ} → length xs ≡ n → length ys ≡ m → length (xs ++ ys) ≡ n + m
sum xs ys h k = let l = length-append xs ys in omega (arith, l, h, k)

mutual
  pub counts_length : (e : Syntax) → length (nested_counts e) ≡ count e
  counts_length (s.Int v) = refl
  counts_length (s.Atom a) = refl
  counts_length s.Nil = refl
  counts_length (s.Str text) = refl
  counts_length (s.Var x) = refl
  counts_length (s.Name f) = refl
  counts_length (s.Tuple site es) = all_length es
  counts_length (s.ListOf site es e) =
      sum (nested_counts_all es) (nested_counts e) (all_length es) (counts_length e)
  counts_length (s.Values es) = all_length es
  counts_length (s.Let xs e b) =
      sum (nested_counts e) (nested_counts b) (counts_length e) (counts_length b)
  counts_length (s.Do e b) =
      sum (nested_counts e) (nested_counts b) (counts_length e) (counts_length b)
  counts_length (s.Case e cs) =
      sum (nested_counts e) (nested_counts_clauses cs) (counts_length e) (clauses_length cs)
  counts_length (s.Letrec fs e) =
      sum (nested_counts_definitions fs) (nested_counts e) (definitions_length fs) (counts_length e)
  counts_length (s.Apply e es) = all_length es
  counts_length (s.Call m f es) = all_length es
  counts_length (s.Primop a es) = all_length es
  counts_length (s.Receive cs t e) =
      sum (nested_counts_clauses cs) (nested_counts e) (clauses_length cs) (counts_length e)
  counts_length (s.Try e xs b ys c) = counts_length e
  counts_length (s.Catch e) = refl
  counts_length (s.Fun xs e) = refl

  pub all_length : (es : Syntaxes) → length (nested_counts_all es) ≡ count_all es
  all_length NoSyntax = refl
  all_length (MoreSyntax e es) =
      sum (nested_counts e) (nested_counts_all es) (counts_length e) (all_length es)

  pub clauses_length : (cs : Clauses) → length (nested_counts_clauses cs) ≡ count_clauses cs
  clauses_length NoClauses = refl
  clauses_length (MoreClauses ps g b cs) =
      sum (nested_counts g) (nested_counts b ++ nested_counts_clauses cs) (counts_length g)
      (sum (nested_counts b) (nested_counts_clauses cs) (counts_length b) (clauses_length cs))

  pub definitions_length : (fs : Definitions)
      → length (nested_counts_definitions fs) ≡ count_definitions fs
  definitions_length NoDefinitions = refl
  definitions_length (MoreDefinitions f xs b fs) =
      ap suc (sum (nested_counts b) (nested_counts_definitions fs) (counts_length b)
      (definitions_length fs))

none : (ns : List ℕ) → ns ≡ ns ++ []
none ns = sym (append-nil ns)

both : (ns a b : List ℕ) {m l : List ℕ} → m ≡ ns ++ a → l ≡ m ++ b → l ≡ ns ++ (a ++ b)
both ns a b h k = k ∙ ap (λ m. m ++ b) h ∙ append_assoc ns a b

-- a place that was kept, with as many behind it
kept : (ns behind : List ℕ) (n : ℕ) {m : List ℕ} → m ≡ ns ++ 0 ∷ [] ++ behind → length behind ≡ n
    → finished (length ns) m ≡ ns ++ n ∷ behind
kept ns behind n {m} h k =
    let seam : ns ++ 0 ∷ [] ++ behind ≡ ns ++ (0 ∷ behind) = append_assoc ns (0 ∷ []) behind in
    let l = ap length (h ∙ seam) ∙ length-append ns (0 ∷ behind) in
    let place : length m - length ns - 1 ≡ n = omega (arith, l, k) in
    (λ i. set ((h ∙ seam) i) (length ns) (place i)) ∙ set-append_seam ns 0 behind n

mutual
  pub passed_is : (e : Syntax) (ns : List ℕ) → passed ns e ≡ ns ++ nested_counts e
  passed_is (s.Int v) ns = none ns
  passed_is (s.Atom a) ns = none ns
  passed_is s.Nil ns = none ns
  passed_is (s.Str text) ns = none ns
  passed_is (s.Var x) ns = none ns
  passed_is (s.Name f) ns = none ns
  passed_is (s.Tuple site es) ns = all_is es ns
  passed_is (s.ListOf site es e) ns =
      both ns (nested_counts_all es) (nested_counts e) (all_is es ns)
      (passed_is e (passed_all ns es))
  passed_is (s.Values es) ns = all_is es ns
  passed_is (s.Let xs e b) ns =
      both ns (nested_counts e) (nested_counts b) (passed_is e ns) (passed_is b (passed ns e))
  passed_is (s.Do e b) ns =
      both ns (nested_counts e) (nested_counts b) (passed_is e ns) (passed_is b (passed ns e))
  passed_is (s.Case e cs) ns =
      both ns (nested_counts e) (nested_counts_clauses cs) (passed_is e ns)
      (clauses_is cs (passed ns e))
  passed_is (s.Letrec fs e) ns =
      both ns (nested_counts_definitions fs) (nested_counts e) (definitions_is fs ns)
      (passed_is e (passed_definitions ns fs))
  passed_is (s.Apply e es) ns = all_is es ns
  passed_is (s.Call m f es) ns = all_is es ns
  passed_is (s.Primop a es) ns = all_is es ns
  passed_is (s.Receive cs t e) ns =
      both ns (nested_counts_clauses cs) (nested_counts e) (clauses_is cs ns)
      (passed_is e (passed_clauses ns cs))
  passed_is (s.Try e xs b ys c) ns = passed_is e ns
  passed_is (s.Catch e) ns = none ns
  passed_is (s.Fun xs e) ns = none ns

  all_is : (es : Syntaxes) (ns : List ℕ) → passed_all ns es ≡ ns ++ nested_counts_all es
  all_is NoSyntax ns = none ns
  all_is (MoreSyntax e es) ns =
      both ns (nested_counts e) (nested_counts_all es) (passed_is e ns) (all_is es (passed ns e))

  clauses_is : (cs : Clauses) (ns : List ℕ)
      → passed_clauses ns cs ≡ ns ++ nested_counts_clauses cs
  clauses_is NoClauses ns = none ns
  clauses_is (MoreClauses ps g b cs) ns =
      let m = passed ns g in
      both ns (nested_counts g) (nested_counts b ++ nested_counts_clauses cs) (passed_is g ns)
      (both m (nested_counts b) (nested_counts_clauses cs) (passed_is b m)
      (clauses_is cs (passed m b)))

  definitions_is : (fs : Definitions) (ns : List ℕ)
      → passed_definitions ns fs ≡ ns ++ nested_counts_definitions fs
  definitions_is NoDefinitions ns = none ns
  definitions_is (MoreDefinitions f xs b fs) ns =
      let own = kept ns (nested_counts b) (count b) (passed_is b (ns ++ 0 ∷ [])) (counts_length b)
      in
      both ns (count b ∷ nested_counts b) (nested_counts_definitions fs) own
      (definitions_is fs (finished (length ns) (passed (ns ++ 0 ∷ []) b)))

functions_are : (fs : List Function) (ns : List ℕ)
    → passed_functions ns fs ≡ ns ++ nested_counts_functions fs
functions_are [] ns = none ns
functions_are (f ∷ fs) ns =
    both ns (nested_counts (syntax_of f.body)) (nested_counts_functions fs)
    (passed_is (syntax_of f.body) ns) (functions_are fs (passed ns (syntax_of f.body)))

pub modules_are : (ms : List Module) (ns : List ℕ)
    → passed_modules ns ms ≡ ns ++ nested_counts_modules ms
modules_are [] ns = none ns
modules_are (m ∷ ms) ns =
    both ns (nested_counts_functions m.functions) (nested_counts_modules ms)
    (functions_are m.functions ns) (modules_are ms (passed_functions ns m.functions))
