-- Functions of letrecs that are counted one part after another are as many as there are.
use Rattle.std.proofs.Common.{◌≡◌, ℕ, suc, ◌+◌, arith}
use Rattle.hy_core.specs.Syntax as s
use Rattle.hy_core.specs.Syntax.{Syntax, Syntaxes, NoSyntax, MoreSyntax}
use Rattle.hy_core.specs.Syntax.{Clauses, NoClauses, MoreClauses}
use Rattle.hy_core.specs.Syntax.{Definitions, NoDefinitions, MoreDefinitions, DefinitionSyntax}
use Rattle.lifted_syntax.specs.LiftedSyntax.{count, count_all, count_clauses, count_definitions}
use Rattle.captured_syntax.specs.Counted.{counted, counted_all, counted_clauses}
use Rattle.captured_syntax.specs.Counted.{counted_definition, counted_definitions}

none : (n : ℕ) → n ≡ n + 0
none n = omega arith

sum : (n a b m k : ℕ) → m ≡ n + a → k ≡ m + b → k ≡ n + (a + b)
sum n a b m k h j = omega (arith, h, j)

mutual
  pub counted-is : (e : Syntax) (n : ℕ) → counted n e ≡ n + count e
  counted-is (s.Int v) n = none n
  counted-is (s.Atom a) n = none n
  counted-is s.Nil n = none n
  counted-is (s.Str text) n = none n
  counted-is (s.Var x) n = none n
  counted-is (s.Name f) n = none n
  counted-is (s.Tuple site es) n = all-is es n
  counted-is (s.ListOf site es e) n =
      sum n (count_all es) (count e) (counted_all n es) (counted (counted_all n es) e)
      (all-is es n) (counted-is e (counted_all n es))
  counted-is (s.Values es) n = all-is es n
  counted-is (s.Let xs e b) n =
      sum n (count e) (count b) (counted n e) (counted (counted n e) b) (counted-is e n)
      (counted-is b (counted n e))
  counted-is (s.Do e b) n =
      sum n (count e) (count b) (counted n e) (counted (counted n e) b) (counted-is e n)
      (counted-is b (counted n e))
  counted-is (s.Case e cs) n =
      sum n (count e) (count_clauses cs) (counted n e) (counted_clauses (counted n e) cs)
      (counted-is e n) (clauses-is cs (counted n e))
  counted-is (s.Letrec fs e) n =
      sum n (count_definitions fs) (count e) (counted_definitions n fs)
      (counted (counted_definitions n fs) e) (definitions-is fs n)
      (counted-is e (counted_definitions n fs))
  counted-is (s.Apply e es) n = all-is es n
  counted-is (s.Call m f es) n = all-is es n
  counted-is (s.Primop a es) n = all-is es n
  counted-is (s.Receive cs t e) n =
      sum n (count_clauses cs) (count e) (counted_clauses n cs)
      (counted (counted_clauses n cs) e) (clauses-is cs n) (counted-is e (counted_clauses n cs))
  counted-is (s.Try e xs b ys c) n = counted-is e n
  counted-is (s.Catch e) n = none n
  counted-is (s.Fun xs e) n = none n

  all-is : (es : Syntaxes) (n : ℕ) → counted_all n es ≡ n + count_all es
  all-is NoSyntax n = none n
  all-is (MoreSyntax e es) n =
      sum n (count e) (count_all es) (counted n e) (counted_all (counted n e) es)
      (counted-is e n) (all-is es (counted n e))

  clauses-is : (cs : Clauses) (n : ℕ) → counted_clauses n cs ≡ n + count_clauses cs
  clauses-is NoClauses n = none n
  clauses-is (MoreClauses ps g b cs) n =
      let m = counted n g in
      let rest = sum m (count b) (count_clauses cs) (counted m b)
      (counted_clauses (counted m b) cs) (counted-is b m) (clauses-is cs (counted m b)) in
      sum n (count g) (count b + count_clauses cs) m (counted_clauses (counted m b) cs)
      (counted-is g n) rest

  definitions-is : (fs : Definitions) (n : ℕ) → counted_definitions n fs ≡ n + count_definitions fs
  definitions-is NoDefinitions n = none n
  definitions-is (MoreDefinitions f xs b fs) n =
      let m = counted (suc n) b in
      let own = counted-is b (suc n) in
      let rest = definitions-is fs m in
      omega (arith, own, rest)

pub definition_next : (f : DefinitionSyntax) (n : ℕ) → counted_definition n f ≡ suc (n + count f.body)
definition_next f n = let h = counted-is f.body (suc n) in omega (arith, h)
