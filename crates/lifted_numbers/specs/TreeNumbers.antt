-- The numbers that a resolved tree has, in the order of the text, and the tree without them. This
-- project's own.
use Rattle.std.specs.Prelude.{ℕ, zero, suc, ◌<◌, List, [], ◌∷◌, ◌++◌}
use Rattle.hy_core.specs.Resolved as r
use Rattle.hy_core.specs.Resolved.{Head, Expression, Expressions, NoExpressions, MoreExpressions}
use Rattle.hy_core.specs.Resolved.{Clauses, NoClauses, MoreClauses}
use Rattle.hy_core.specs.Resolved.{Functions, NoFunctions, MoreFunctions, FunctionTree}
use Rattle.hy_core.specs.Supplied.{Supply, expression_count}

-- numbers before others
abbrev pub onto : Supply → Supply → Supply
onto n s = record { events = n.events ++ s.events; sites = n.sites ++ s.sites }

abbrev pub none : Supply
none = record { events = []; sites = [] }

abbrev pub event : ℕ → Supply
event n = record { events = n ∷ []; sites = [] }

-- so many numbers, of which the first is given
abbrev pub from : (first : ℕ) → (count : ℕ) → List ℕ
from n zero = []
from n (suc k) = n ∷ from (suc n) k

abbrev pub sites_from : (first : ℕ) → (count : ℕ) → Supply
sites_from n k = record { events = []; sites = from n k }

abbrev pub head_numbers : Head → Supply
head_numbers (r.Setelement site) = sites_from site 1
head_numbers (r.Send node) = event node
head_numbers (r.Spawn node function) = event node
head_numbers (r.Display node) = event node
head_numbers _ = none

abbrev mutual
  -- the numbers of events and of sites; each head of a list notation has a site
  pub numbers : Expression → Supply
  numbers (r.Text site text) = sites_from site 1
  numbers (r.Tuple site es) = onto (sites_from site 1) (all_numbers es)
  numbers (r.ListOf site es e) =
      onto (sites_from site (expression_count es)) (onto (all_numbers es) (numbers e))
  numbers (r.Values es) = all_numbers es
  numbers (r.Let xs e b) = onto (numbers e) (numbers b)
  numbers (r.Do e b) = onto (numbers e) (numbers b)
  numbers (r.Case e cs) = onto (numbers e) (clauses_numbers cs)
  numbers (r.Letrec fs e) = onto (functions_numbers fs) (numbers e)
  numbers (r.Call head es) = onto (head_numbers head) (all_numbers es)
  numbers (r.Receive cs timeout e) = onto (clauses_numbers cs) (numbers e)
  numbers _ = none

  pub all_numbers : Expressions → Supply
  all_numbers NoExpressions = none
  all_numbers (MoreExpressions e es) = onto (numbers e) (all_numbers es)

  pub clauses_numbers : Clauses → Supply
  clauses_numbers NoClauses = none
  clauses_numbers (MoreClauses ps g b cs) =
      onto (numbers g) (onto (numbers b) (clauses_numbers cs))

  pub functions_numbers : Functions → Supply
  functions_numbers NoFunctions = none
  functions_numbers (MoreFunctions f xs b fs) = onto (numbers b) (functions_numbers fs)

abbrev pub bare_head : Head → Head
bare_head (r.Setelement site) = r.Setelement 0
bare_head (r.Send node) = r.Send 0
bare_head (r.Spawn node function) = r.Spawn 0 function
bare_head (r.Display node) = r.Display 0
bare_head head = head

abbrev mutual
  -- the tree with all its numbers 0
  pub bare : Expression → Expression
  bare (r.Text site text) = r.Text 0 text
  bare (r.Tuple site es) = r.Tuple 0 (all_bare es)
  bare (r.ListOf site es e) = r.ListOf 0 (all_bare es) (bare e)
  bare (r.Values es) = r.Values (all_bare es)
  bare (r.Let xs e b) = r.Let xs (bare e) (bare b)
  bare (r.Do e b) = r.Do (bare e) (bare b)
  bare (r.Case e cs) = r.Case (bare e) (clauses_bare cs)
  bare (r.Letrec fs e) = r.Letrec (functions_bare fs) (bare e)
  bare (r.Call head es) = r.Call (bare_head head) (all_bare es)
  bare (r.Receive cs timeout e) = r.Receive (clauses_bare cs) timeout (bare e)
  bare e = e

  pub all_bare : Expressions → Expressions
  all_bare NoExpressions = NoExpressions
  all_bare (MoreExpressions e es) = MoreExpressions (bare e) (all_bare es)

  pub clauses_bare : Clauses → Clauses
  clauses_bare NoClauses = NoClauses
  clauses_bare (MoreClauses ps g b cs) = MoreClauses ps (bare g) (bare b) (clauses_bare cs)

  pub functions_bare : Functions → Functions
  functions_bare NoFunctions = NoFunctions
  functions_bare (MoreFunctions f xs b fs) = MoreFunctions f xs (bare b) (functions_bare fs)

abbrev pub bare_function : FunctionTree → FunctionTree
bare_function f = record { parameters = f.parameters; body = bare f.body }

abbrev mutual
  -- no list notation is empty
  pub HasHeads : Expression → Type 0
  HasHeads (r.Tuple site es) = AllHaveHeads es
  HasHeads (r.ListOf site es e) =
      (0 < expression_count es) × AllHaveHeads es × HasHeads e
  HasHeads (r.Values es) = AllHaveHeads es
  HasHeads (r.Let xs e b) = HasHeads e × HasHeads b
  HasHeads (r.Do e b) = HasHeads e × HasHeads b
  HasHeads (r.Case e cs) = HasHeads e × ClausesHaveHeads cs
  HasHeads (r.Letrec fs e) = FunctionsHaveHeads fs × HasHeads e
  HasHeads (r.Call head es) = AllHaveHeads es
  HasHeads (r.Receive cs timeout e) = ClausesHaveHeads cs × HasHeads e
  HasHeads _ = Unit {0}

  pub AllHaveHeads : Expressions → Type 0
  AllHaveHeads NoExpressions = Unit {0}
  AllHaveHeads (MoreExpressions e es) = HasHeads e × AllHaveHeads es

  pub ClausesHaveHeads : Clauses → Type 0
  ClausesHaveHeads NoClauses = Unit {0}
  ClausesHaveHeads (MoreClauses ps g b cs) = HasHeads g × HasHeads b × ClausesHaveHeads cs

  pub FunctionsHaveHeads : Functions → Type 0
  FunctionsHaveHeads NoFunctions = Unit {0}
  FunctionsHaveHeads (MoreFunctions f xs b fs) = HasHeads b × FunctionsHaveHeads fs
