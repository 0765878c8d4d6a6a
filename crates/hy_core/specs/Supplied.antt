-- Resolved trees with their numbers: those of the nodes of events and those of sites are supplied
-- in the order of the text, in which what has numbers of its own comes before its parts. Numbers
-- are this project's own, and no meaning depends on them.
use Rattle.std.specs.Prelude.{ℕ, suc, List, [], ◌∷◌, drop}
use Rattle.hy_core.specs.Resolved.{Head, Setelement, Send, Spawn, Display, Expression, Int, Atom, Nil, Text, Variable, Tuple, ListOf, Values, Let, Do, Case, Letrec, Call, Receive, Refused, Expressions, NoExpressions, MoreExpressions, Clauses, NoClauses, MoreClauses, Functions, NoFunctions, MoreFunctions}

-- the numbers that are left
pub record Supply : Type 0 where
  pub events : List ℕ
  pub sites : List ℕ

abbrev first : List ℕ → ℕ
first [] = 0
first (n ∷ ns) = n

-- the supply behind so many sites, and behind one event
abbrev pub behind_sites : ℕ → Supply → Supply
behind_sites n s = record s { sites = drop n s.sites }

abbrev pub behind_event : Supply → Supply
behind_event s = record s { events = drop 1 s.events }

abbrev pub expression_count : Expressions → ℕ
expression_count NoExpressions = 0
expression_count (MoreExpressions e es) = suc (expression_count es)

-- what a call calls, with its number
abbrev pub supplied_head : Head → Supply → Head
supplied_head (Setelement site) s = Setelement (first s.sites)
supplied_head (Send node) s = Send (first s.events)
supplied_head (Spawn node function) s = Spawn (first s.events) function
supplied_head (Display node) s = Display (first s.events)
supplied_head head s = head

abbrev pub behind_head : Head → Supply → Supply
behind_head (Setelement site) s = behind_sites 1 s
behind_head (Send node) s = behind_event s
behind_head (Spawn node function) s = behind_event s
behind_head (Display node) s = behind_event s
behind_head head s = s

-- the supply that a tree leaves
abbrev mutual
  pub behind : Expression → Supply → Supply
  behind (Int n) s = s
  behind (Atom a) s = s
  behind Nil s = s
  behind (Text site text) s = behind_sites 1 s
  behind (Variable x) s = s
  behind (Tuple site es) s = behind_all es (behind_sites 1 s)
  behind (ListOf site es e) s = behind e (behind_all es (behind_sites (expression_count es) s))
  behind (Values es) s = behind_all es s
  behind (Let xs e b) s = behind b (behind e s)
  behind (Do e b) s = behind b (behind e s)
  behind (Case e cs) s = behind_clauses cs (behind e s)
  behind (Letrec fs e) s = behind e (behind_functions fs s)
  behind (Call head es) s = behind_all es (behind_head head s)
  behind (Receive cs timeout e) s = behind e (behind_clauses cs s)
  behind Refused s = s

  pub behind_all : Expressions → Supply → Supply
  behind_all NoExpressions s = s
  behind_all (MoreExpressions e es) s = behind_all es (behind e s)

  pub behind_clauses : Clauses → Supply → Supply
  behind_clauses NoClauses s = s
  behind_clauses (MoreClauses ps guard body cs) s = behind_clauses cs (behind body (behind guard s))

  pub behind_functions : Functions → Supply → Supply
  behind_functions NoFunctions s = s
  behind_functions (MoreFunctions f xs body fs) s = behind_functions fs (behind body s)

-- the tree with its numbers
abbrev mutual
  pub supplied : Expression → Supply → Expression
  supplied (Int n) s = Int n
  supplied (Atom a) s = Atom a
  supplied Nil s = Nil
  supplied (Text site text) s = Text (first s.sites) text
  supplied (Variable x) s = Variable x
  supplied (Tuple site es) s = Tuple (first s.sites) (all_supplied es (behind_sites 1 s))
  supplied (ListOf site es e) s =
      let inside = behind_sites (expression_count es) s in
      ListOf (first s.sites) (all_supplied es inside) (supplied e (behind_all es inside))
  supplied (Values es) s = Values (all_supplied es s)
  supplied (Let xs e b) s = Let xs (supplied e s) (supplied b (behind e s))
  supplied (Do e b) s = Do (supplied e s) (supplied b (behind e s))
  supplied (Case e cs) s = Case (supplied e s) (clauses_supplied cs (behind e s))
  supplied (Letrec fs e) s = Letrec (functions_supplied fs s) (supplied e (behind_functions fs s))
  supplied (Call head es) s = Call (supplied_head head s) (all_supplied es (behind_head head s))
  supplied (Receive cs timeout e) s =
      Receive (clauses_supplied cs s) timeout (supplied e (behind_clauses cs s))
  supplied Refused s = Refused

  pub all_supplied : Expressions → Supply → Expressions
  all_supplied NoExpressions s = NoExpressions
  all_supplied (MoreExpressions e es) s =
      MoreExpressions (supplied e s) (all_supplied es (behind e s))

  pub clauses_supplied : Clauses → Supply → Clauses
  clauses_supplied NoClauses s = NoClauses
  clauses_supplied (MoreClauses ps guard body cs) s =
      let after_guard = behind guard s in
      MoreClauses ps (supplied guard s) (supplied body after_guard)
      (clauses_supplied cs (behind body after_guard))

  pub functions_supplied : Functions → Supply → Functions
  functions_supplied NoFunctions s = NoFunctions
  functions_supplied (MoreFunctions f xs body fs) s =
      MoreFunctions f xs (supplied body s) (functions_supplied fs (behind body s))
