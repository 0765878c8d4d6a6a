-- Each built-in called by its name in a small program.
use Rattle.std.specs.Prelude.{ℕ, List, [], ◌∷◌, map, codes, negsuc}
use Rattle.hy_core.specs.declared.class.Class.TheVariants.{Error}
use Rattle.hy_core.specs.declared.end.End.TheVariants.{Ended, Raised}
use Rattle.hy_core.specs.SmallPrograms.{atom, int, syntaxes, tuple, list, erlang, line, Writes, EndsWith}
use Rattle.hy_core.specs.Syntax as syntax
use Rattle.hy_core.specs.Syntax.{Syntax}
use Rattle.hy_core.specs.Worked.{event}

-- the tuple of what a built-in gives for each of these arguments
abbrev each_of : List ℕ → List (List Syntax) → Syntax
each_of name arguments = tuple (map (erlang name) arguments)

-- at the first less, both equal, and the first greater
abbrev pub compared : List ℕ → Syntax
compared name =
    each_of name ((int 1 ∷ int 2 ∷ []) ∷ (int 2 ∷ int 2 ∷ []) ∷ (int 2 ∷ int 1 ∷ []) ∷ [])

pub record EachComparison : Type 0 where
  pub same : EndsWith (compared (codes "=:=")) (codes "{'false','true','false'}")
  pub equal : EndsWith (compared (codes "==")) (codes "{'false','true','false'}")
  pub not_same : EndsWith (compared (codes "=/=")) (codes "{'true','false','true'}")
  pub not_equal : EndsWith (compared (codes "/=")) (codes "{'true','false','true'}")
  pub less : EndsWith (compared (codes "<")) (codes "{'true','false','false'}")
  pub greater : EndsWith (compared (codes ">")) (codes "{'false','false','true'}")
  pub at_most : EndsWith (compared (codes "=<")) (codes "{'true','true','false'}")
  pub at_least : EndsWith (compared (codes ">=")) (codes "{'false','true','true'}")

abbrev yes : Syntax
yes = atom (codes "true")

abbrev no : Syntax
no = atom (codes "false")

-- at each two truth values
abbrev pub of_two_truths : List ℕ → Syntax
of_two_truths name =
    each_of name ((yes ∷ yes ∷ []) ∷ (yes ∷ no ∷ []) ∷ (no ∷ yes ∷ []) ∷ (no ∷ no ∷ []) ∷ [])

abbrev pub of_each_truth : List ℕ → Syntax
of_each_truth name = each_of name ((yes ∷ []) ∷ (no ∷ []) ∷ [])

pub record TruthTables : Type 0 where
  pub both : EndsWith (of_two_truths (codes "and")) (codes "{'true','false','false','false'}")
  pub some : EndsWith (of_two_truths (codes "or")) (codes "{'true','true','true','false'}")
  pub one : EndsWith (of_two_truths (codes "xor")) (codes "{'false','true','true','false'}")
  pub other : EndsWith (of_each_truth (codes "not")) (codes "{'false','true'}")

-- at 1, 'a', 'true', self(), [], [1] and {}
abbrev pub of_each_kind : List ℕ → Syntax
of_each_kind name =
    each_of name
    (
    (int 1 ∷ []) ∷ (atom (codes "a") ∷ []) ∷ (yes ∷ []) ∷ (erlang (codes "self") [] ∷ [])
    ∷ (syntax.Nil ∷ []) ∷ (list (int 1 ∷ []) ∷ []) ∷ (tuple [] ∷ []) ∷ []
    )

pub record EachKindOfEach : Type 0 where
  pub integer :
      EndsWith (of_each_kind (codes "is_integer"))
      (codes "{'true','false','false','false','false','false','false'}")
  pub number :
      EndsWith (of_each_kind (codes "is_number"))
      (codes "{'true','false','false','false','false','false','false'}")
  pub atom :
      EndsWith (of_each_kind (codes "is_atom"))
      (codes "{'false','true','true','false','false','false','false'}")
  pub boolean :
      EndsWith (of_each_kind (codes "is_boolean"))
      (codes "{'false','false','true','false','false','false','false'}")
  pub pid :
      EndsWith (of_each_kind (codes "is_pid"))
      (codes "{'false','false','false','true','false','false','false'}")
  pub list :
      EndsWith (of_each_kind (codes "is_list"))
      (codes "{'false','false','false','false','true','true','false'}")
  pub tuple :
      EndsWith (of_each_kind (codes "is_tuple"))
      (codes "{'false','false','false','false','false','false','true'}")

-- {hd([1|2]), tl([1|2]), length([1, 2]), tuple_size({1, 2}), element(2, {1, 2}),
--  setelement(2, {1, 2}, 3), abs(-3), -(3), band(12, 10), bor(12, 10), bxor(12, 10),
--  +(576460752303423486, 1), -(5, 3), *(6, 7)}
abbrev pub other_names : Syntax
other_names =
    let improper = syntax.ListOf 0 (syntaxes (int 1 ∷ [])) (int 2) in
    let pair = tuple (int 1 ∷ int 2 ∷ []) in
    let bits = int 12 ∷ int 10 ∷ [] in
    tuple
    (
    erlang (codes "hd") (improper ∷ []) ∷ erlang (codes "tl") (improper ∷ [])
    ∷ erlang (codes "length") (list (int 1 ∷ int 2 ∷ []) ∷ [])
    ∷ erlang (codes "tuple_size") (pair ∷ []) ∷ erlang (codes "element") (int 2 ∷ pair ∷ [])
    ∷ erlang (codes "setelement") (int 2 ∷ pair ∷ int 3 ∷ [])
    ∷ erlang (codes "abs") (syntax.Int (negsuc 2) ∷ []) ∷ erlang (codes "-") (int 3 ∷ [])
    ∷ erlang (codes "band") bits ∷ erlang (codes "bor") bits ∷ erlang (codes "bxor") bits
    ∷ erlang (codes "+") (int 576460752303423486 ∷ int 1 ∷ [])
    ∷ erlang (codes "-") (int 5 ∷ int 3 ∷ []) ∷ erlang (codes "*") (int 6 ∷ int 7 ∷ []) ∷ []
    )

abbrev pub sends : Syntax
sends = erlang (codes "send") (erlang (codes "self") [] ∷ int 1 ∷ [])

abbrev pub errs : Syntax
errs = erlang (codes "error") (int 1 ∷ [])

pub record EachNameOnce : Type 0 where
  pub values : EndsWith other_names (codes "{1,2,2,2,2,{1,3},3,-3,8,14,6,576460752303423487,2,42}")
  pub send : Writes sends (event 0 0 ∷ []) (Ended (codes "1") ∷ []) (line (codes "0 ended 1"))
  pub error : Writes errs [] (Raised Error (codes "1") ∷ []) (line (codes "0 raised error 1"))
