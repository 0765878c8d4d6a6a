-- By a program's own counts the code gathers its facts.
use Rattle.std.proofs.Common.{◌≡◌, ℕ, suc, ◌+◌, List, [], ◌∷◌, ◌++◌, length}
use Rattle.std.proofs.Common.{refl, sym, ap, ◌∙◌, subst, arith}
use Rattle.hy_core.specs.Numbered.{function_count}
use Rattle.hy_core.specs.Syntax as s
use Rattle.hy_core.specs.Syntax.{Syntax, Syntaxes, NoSyntax, MoreSyntax, syntax_of}
use Rattle.hy_core.specs.Syntax.{Clauses, NoClauses, MoreClauses}
use Rattle.hy_core.specs.Syntax.{Definitions, NoDefinitions, MoreDefinitions}
use Rattle.hy_core.specs.declared.tree.Function.{Function}
use Rattle.hy_core.specs.declared.tree.Module.{Module}
use Rattle.lifted_syntax.specs.ExtractedSyntax.{count_module}
use Rattle.lifted_syntax.specs.LiftedSyntax.{count, count_all, count_clauses, count_definitions}
use Rattle.captured_facts.specs.Facts.{outermost}
use Rattle.captured_facts.specs.declared.owner.Owner.{Owner}
use Rattle.captured_syntax.specs.Gathered.{Gathering, binding, matching, back_to, entering, leaving}
use Rattle.captured_syntax.specs.Gathered.{beginning, begun, applying, gathered, gathered_all}
use Rattle.captured_syntax.specs.Gathered.{gathered_clauses, gathered_definitions}
use Rattle.captured_syntax.specs.Gathered.{gathered_function, gathered_module, gathered_modules}
use Rattle.captured_syntax.specs.Gathered.{each_gathered, program_facts}
use Rattle.letrec_names.specs.CountsGiven.{Gives, GivesAll, GivesClauses, GivesDefinitions}
use Rattle.letrec_names.specs.CountsGiven.{GivesFunctions, GivesModules}
use Rattle.letrec_names.specs.NestedCounts.{Counts, program_counts}
use Rattle.letrec_names.proofs.Giving.{numbered_is, program_given}
use Rattle.captured_variables.specs.code.Walked.{entering_by, walked, walked_all, walked_clauses}
use Rattle.captured_variables.specs.code.Walked.{walked_definitions, walked_functions}
use Rattle.captured_variables.specs.code.Walked.{walked_modules, nothing_gathered}

none : (n : ℕ) → n ≡ n + 0
none n = omega arith

sum : (n a b m k : ℕ) → m ≡ n + a → k ≡ m + b → k ≡ n + (a + b)
sum n a b m k h j = omega (arith, h, j)

applying_next : (o : Owner) (w : Gathering) (e : Syntax) → (applying o w e).next ≡ w.next
applying_next o w (s.Int v) = refl
applying_next o w (s.Atom a) = refl
applying_next o w s.Nil = refl
applying_next o w (s.Str text) = refl
applying_next o w (s.Var x) = refl
applying_next o w (s.Name f) = refl
applying_next o w (s.Tuple site es) = refl
applying_next o w (s.ListOf site es e) = refl
applying_next o w (s.Values es) = refl
applying_next o w (s.Let xs e b) = refl
applying_next o w (s.Do e b) = refl
applying_next o w (s.Case e cs) = refl
applying_next o w (s.Letrec fs e) = refl
applying_next o w (s.Apply e es) = refl
applying_next o w (s.Call m f es) = refl
applying_next o w (s.Primop a es) = refl
applying_next o w (s.Receive cs t e) = refl
applying_next o w (s.Try e xs b ys d) = refl
applying_next o w (s.Catch e) = refl
applying_next o w (s.Fun xs e) = refl

-- the number of the next function, behind a text
mutual
  next_is : (e : Syntax) (o : Owner) (w : Gathering) → (gathered o w e).next ≡ w.next + count e
  next_is (s.Int v) o w = none w.next
  next_is (s.Atom a) o w = none w.next
  next_is s.Nil o w = none w.next
  next_is (s.Str text) o w = none w.next
  next_is (s.Var x) o w = none w.next
  next_is (s.Name f) o w = none w.next
  next_is (s.Tuple site es) o w = all_next es o w
  next_is (s.ListOf site es e) o w =
      let v = gathered_all o w es in
      sum w.next (count_all es) (count e) v.next (gathered o v e).next (all_next es o w)
      (next_is e o v)
  next_is (s.Values es) o w = all_next es o w
  next_is (s.Let xs e b) o w =
      let v = gathered o w e in
      sum w.next (count e) (count b) v.next (gathered o (binding v xs) b).next (next_is e o w)
      (next_is b o (binding v xs))
  next_is (s.Do e b) o w =
      let v = gathered o w e in
      sum w.next (count e) (count b) v.next (gathered o v b).next (next_is e o w) (next_is b o v)
  next_is (s.Case e cs) o w =
      let v = gathered o w e in
      sum w.next (count e) (count_clauses cs) v.next (gathered_clauses o v cs).next (next_is e o w)
      (clauses_next cs o v)
  next_is (s.Letrec fs e) o w =
      let v = gathered_definitions o (entering w fs) fs in
      sum w.next (count_definitions fs) (count e) v.next (gathered o v e).next
      (definitions_next fs o (entering w fs)) (next_is e o v)
  next_is (s.Apply e es) o w =
      all_next es o (applying o w e) ∙ ap (λ n. n + count_all es) (applying_next o w e)
  next_is (s.Call m f es) o w = all_next es o w
  next_is (s.Primop a es) o w = all_next es o w
  next_is (s.Receive cs t e) o w =
      let v = gathered_clauses o w cs in
      sum w.next (count_clauses cs) (count e) v.next (gathered o v e).next (clauses_next cs o w)
      (next_is e o v)
  next_is (s.Try e xs b ys d) o w = next_is e o w
  next_is (s.Catch e) o w = none w.next
  next_is (s.Fun xs e) o w = none w.next

  all_next : (es : Syntaxes) (o : Owner) (w : Gathering)
      → (gathered_all o w es).next ≡ w.next + count_all es
  all_next NoSyntax o w = none w.next
  all_next (MoreSyntax e es) o w =
      let v = gathered o w e in
      sum w.next (count e) (count_all es) v.next (gathered_all o v es).next (next_is e o w)
      (all_next es o v)

  clauses_next : (cs : Clauses) (o : Owner) (w : Gathering)
      → (gathered_clauses o w cs).next ≡ w.next + count_clauses cs
  clauses_next NoClauses o w = none w.next
  clauses_next (MoreClauses ps g b cs) o w =
      let v = gathered o (matching w ps) g in
      let u = gathered o v b in
      let t = back_to (length w.scope) u in
      sum w.next (count g) (count b + count_clauses cs) v.next (gathered_clauses o t cs).next
      (next_is g o (matching w ps))
      (sum v.next (count b) (count_clauses cs) u.next (gathered_clauses o t cs).next
      (next_is b o v) (clauses_next cs o t))

  definitions_next : (fs : Definitions) (o : Owner) (w : Gathering)
      → (gathered_definitions o w fs).next ≡ w.next + count_definitions fs
  definitions_next NoDefinitions o w = none w.next
  definitions_next (MoreDefinitions f xs b fs) o w =
      let u = gathered (beginning w) (binding (begun o w) xs) b in
      let own = next_is b (beginning w) (binding (begun o w) xs) in
      let rest = definitions_next fs o (back_to (length w.scope) u) in
      omega (arith, own, rest)

module _ (c : Counts) where
  at : {n m : ℕ} (e : Syntax) → m ≡ n → Gives c n e → Gives c m e
  at e h g = subst (λ n. Gives c n e) (sym h) g

  mutual
    walked_is : (e : Syntax) (o : Owner) (w : Gathering) → Gives c w.next e
        → walked c o w e ≡ gathered o w e
    walked_is (s.Int v) o w h = refl
    walked_is (s.Atom a) o w h = refl
    walked_is s.Nil o w h = refl
    walked_is (s.Str text) o w h = refl
    walked_is (s.Var x) o w h = refl
    walked_is (s.Name f) o w h = refl
    walked_is (s.Tuple site es) o w h = all_is es o w h
    walked_is (s.ListOf site es e) o w h =
        ap (λ v. walked c o v e) (all_is es o w h.0)
        ∙ walked_is e o (gathered_all o w es) (at e (all_next es o w) h.1)
    walked_is (s.Values es) o w h = all_is es o w h
    walked_is (s.Let xs e b) o w h =
        let first = gathered o w e in
        ap (λ v. back_to (length v.scope) (walked c o (binding v xs) b)) (walked_is e o w h.0)
        ∙ ap (back_to (length first.scope))
        (walked_is b o (binding first xs) (at b (next_is e o w) h.1))
    walked_is (s.Do e b) o w h =
        ap (λ v. walked c o v b) (walked_is e o w h.0)
        ∙ walked_is b o (gathered o w e) (at b (next_is e o w) h.1)
    walked_is (s.Case e cs) o w h =
        ap (λ v. walked_clauses c o v cs) (walked_is e o w h.0)
        ∙ clauses_is cs o (gathered o w e)
        (subst (λ n. GivesClauses c n cs) (sym (next_is e o w)) h.1)
    walked_is (s.Letrec fs e) o w h =
        let inside = entering w fs in
        let height = length w.around in
        let named : entering_by c w fs ≡ inside =
        ap (λ r. record w { around = r ++ w.around }) (numbered_is c w.next fs h.0) in
        ap (λ v. leaving height (walked c o (walked_definitions c o v fs) e)) named
        ∙ ap (λ v. leaving height (walked c o v e)) (definitions_are fs o inside h.0)
        ∙ ap (leaving height)
        (walked_is e o (gathered_definitions o inside fs) (at e (definitions_next fs o inside) h.1))
    walked_is (s.Apply e es) o w h =
        all_is es o (applying o w e) (subst (λ n. GivesAll c n es) (sym (applying_next o w e)) h)
    walked_is (s.Call m f es) o w h = all_is es o w h
    walked_is (s.Primop a es) o w h = all_is es o w h
    walked_is (s.Receive cs t e) o w h =
        ap (λ v. walked c o v e) (clauses_is cs o w h.0)
        ∙ walked_is e o (gathered_clauses o w cs) (at e (clauses_next cs o w) h.1)
    walked_is (s.Try e xs b ys d) o w h = walked_is e o w h
    walked_is (s.Catch e) o w h = refl
    walked_is (s.Fun xs e) o w h = refl

    all_is : (es : Syntaxes) (o : Owner) (w : Gathering) → GivesAll c w.next es
        → walked_all c o w es ≡ gathered_all o w es
    all_is NoSyntax o w h = refl
    all_is (MoreSyntax e es) o w h =
        ap (λ v. walked_all c o v es) (walked_is e o w h.0)
        ∙ all_is es o (gathered o w e) (subst (λ n. GivesAll c n es) (sym (next_is e o w)) h.1)

    clauses_is : (cs : Clauses) (o : Owner) (w : Gathering) → GivesClauses c w.next cs
        → walked_clauses c o w cs ≡ gathered_clauses o w cs
    clauses_is NoClauses o w h = refl
    clauses_is (MoreClauses ps g b cs) o w h =
        let depth = length w.scope in
        let inside = matching w ps in
        let v = gathered o inside g in
        let u = gathered o v b in
        let behind = next_is g o inside in
        let next = next_is b o v ∙ ap (λ n. n + count b) behind in
        ap (λ v. walked_clauses c o (back_to depth (walked c o v b)) cs) (walked_is g o inside h.0)
        ∙ ap (λ u. walked_clauses c o (back_to depth u) cs) (walked_is b o v (at b behind h.1))
        ∙ clauses_is cs o (back_to depth u) (subst (λ n. GivesClauses c n cs) (sym next) h.2)

    definitions_are : (fs : Definitions) (o : Owner) (w : Gathering) → GivesDefinitions c w.next fs
        → walked_definitions c o w fs ≡ gathered_definitions o w fs
    definitions_are NoDefinitions o w h = refl
    definitions_are (MoreDefinitions f xs b fs) o w h =
        let depth = length w.scope in
        let inside = binding (begun o w) xs in
        let u = gathered (beginning w) inside b in
        let own = next_is b (beginning w) inside in
        let next : u.next ≡ suc (w.next + count b) = omega (arith, own) in
        ap (λ u. walked_definitions c o (back_to depth u) fs)
        (walked_is b (beginning w) inside h.1)
        ∙ definitions_are fs o (back_to depth u)
        (subst (λ n. GivesDefinitions c n fs) (sym next) h.2)

  functions_next : (fs : List Function) (w : Gathering)
      → (each_gathered gathered_function w fs).next ≡ w.next + count_module fs
  functions_next [] w = none w.next
  functions_next (f ∷ fs) w =
      let e = syntax_of f.body in
      let v = gathered_function w f in
      sum w.next (count e) (count_module fs) v.next (each_gathered gathered_function v fs).next
      (next_is e outermost (binding w f.params)) (functions_next fs v)

  functions_are : (fs : List Function) (w : Gathering) → GivesFunctions c w.next fs
      → walked_functions c w fs ≡ each_gathered gathered_function w fs
  functions_are [] w h = refl
  functions_are (f ∷ fs) w h =
      let e = syntax_of f.body in
      let inside = binding w f.params in
      ap (λ u. walked_functions c (back_to (length w.scope) u) fs)
      (walked_is e outermost inside h.0)
      ∙ functions_are fs (gathered_function w f)
      (subst (λ n. GivesFunctions c n fs) (sym (next_is e outermost inside)) h.1)

  modules_are : (ms : List Module) (w : Gathering) → GivesModules c w.next ms
      → walked_modules c w ms ≡ gathered_modules w ms
  modules_are [] w h = refl
  modules_are (m ∷ ms) w h =
      ap (λ v. walked_modules c v ms) (functions_are m.functions w h.0)
      ∙ modules_are ms (gathered_module w m)
      (subst (λ n. GivesModules c n ms) (sym (functions_next m.functions w)) h.1)

pub facts_are : (ms : List Module)
    → (walked_modules (program_counts ms) (nothing_gathered (function_count ms)) ms).facts
    ≡ program_facts ms
facts_are ms =
    ap (λ w. w.facts)
    (modules_are (program_counts ms) ms (nothing_gathered (function_count ms)) (program_given ms))
