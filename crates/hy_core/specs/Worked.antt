-- Small programs, and what they write: each is a module 'm' with the modules that each program has.
use Rattle.std.specs.Prelude.{◌≡◌, ℕ, List, [], ◌∷◌, ◌++◌, pos, negsuc, codes, Option, None}
use Rattle.hy_terms.specs.Term.{Term}
use Rattle.hy_core.specs.declared.class.Class.TheVariants.{Error, Throw}
use Rattle.hy_core.specs.declared.end.End.{End}
use Rattle.hy_core.specs.declared.end.End.TheVariants.{Ended, Raised, Waits}
use Rattle.hy_core.specs.declared.info.FunInfo.{FunInfo}
use Rattle.hy_core.specs.declared.step.Item.TheVariants as item
use Rattle.hy_core.specs.declared.step.Step.{Step}
use Rattle.hy_core.specs.declared.tree.FunName.{FunName}
use Rattle.hy_core.specs.BuiltIn.{own_atoms}
use Rattle.hy_core.specs.Computation.{Spent}
use Rattle.hy_core.specs.FullRun.{NeverStopped, after_run, runs_of}
use Rattle.hy_core.specs.Machine.{Configuration}
use Rattle.hy_core.specs.ProgramTrees.{function_trees}
use Rattle.hy_core.specs.Resolve.{Names}
use Rattle.hy_core.specs.Resolved.{FunctionTree, Pattern, AnyTerm, TheInt, TheAtom, TheNil, TheList, NoPatterns, MorePatterns}
use Rattle.hy_core.specs.Syntax as syntax
use Rattle.hy_core.specs.WrittenRun.{IsRunOf}
use Rattle.hy_core.specs.Syntax.{Syntax, Syntaxes, NoSyntax, MoreSyntax, NoDefinitions, MoreDefinitions, ModuleSyntax, module_trees}

-- behind the own atoms: 7 'm', 8 'main', 9 'erlang', 10 'lists', 11 '++', 12 'reverse', 13
-- 'append', 14 'error', 15 'a', 16 'b', 17 'no', 18 'yes', 19 'infinity', 20 '+', 21 'div', 22
-- 'rem', 23 'display', 24 '!', 25 'self', 26 '<', 27 'spawn', 28 'child', 29 'throw', 30
-- 'match_fail', 31 'badmatch', 32 'nobody', 33 'it's'
abbrev pub atoms : List (List ℕ)
atoms =
    own_atoms ++ codes "m" ∷ codes "main" ∷ codes "erlang" ∷ codes "lists" ∷ codes "++"
    ∷ codes "reverse" ∷ codes "append" ∷ codes "error" ∷ codes "a" ∷ codes "b"
    ∷ codes "no" ∷ codes "yes"
    ∷ codes "infinity" ∷ codes "+" ∷ codes "div" ∷ codes "rem" ∷ codes "display" ∷ codes "!"
    ∷ codes "self" ∷ codes "<" ∷ codes "spawn" ∷ codes "child" ∷ codes "throw"
    ∷ codes "match_fail" ∷ codes "badmatch" ∷ codes "nobody" ∷ codes "it's" ∷ []

abbrev named : ℕ → ℕ → FunName
named name arity = record { name = name; arity = arity }

abbrev info : ℕ → FunName → FunInfo
info m f = record { «module» = m; name = f }

abbrev pub names : Names
names = record {
  atoms = atoms;
  functions = info 7 (named 8 0) ∷ info 7 (named 28 0)
      ∷ info 9 (named 11 2) ∷ info 10 (named 12 1) ∷ info 10 (named 12 2)
      ∷ info 10 (named 13 2) ∷ [];
}

abbrev one : Syntax → Syntaxes
one s = MoreSyntax s NoSyntax

abbrev both : Syntax → Syntax → Syntaxes
both s t = MoreSyntax s (MoreSyntax t NoSyntax)

abbrev erlang : ℕ → Syntaxes → Syntax
erlang f arguments = syntax.Call (syntax.Atom 9) (syntax.Atom f) arguments

abbrev clause : Pattern → Syntax → syntax.Clauses → syntax.Clauses
clause p s cs = syntax.MoreClauses (MorePatterns p NoPatterns) (syntax.Atom 0) s cs

abbrev int : ℕ → Syntax
int n = syntax.Int (pos n)

abbrev display : Syntax → Syntax
display s = erlang 23 (one s)

abbrev send : Syntax → Syntax → Syntax
send to s = erlang 24 (both to s)

abbrev self : Syntax
self = erlang 25 NoSyntax

-- the functions that each program has: '++'/2, and 'reverse'/1, 'reverse'/2 and 'append'/2 of lists
abbrev badarg_clause : syntax.Clauses
badarg_clause = clause (AnyTerm 4) (erlang 14 (one (syntax.Atom 3))) syntax.NoClauses

abbrev prelude : List ModuleSyntax
prelude =
    record {
      name = 9;
      functions = MoreDefinitions (named 11 2) (0 ∷ 1 ∷ [])
          (syntax.Case (syntax.Var 0) (clause TheNil (syntax.Var 1)
          (clause (TheList (MorePatterns (AnyTerm 2) NoPatterns) (AnyTerm 3))
          (syntax.ListOf 0 (one (syntax.Var 2))
          (syntax.Apply (syntax.Name (named 11 2)) (both (syntax.Var 3) (syntax.Var 1))))
          badarg_clause))) NoDefinitions;
    }
    ∷ record {
      name = 10;
      functions =
          MoreDefinitions (named 12 1) (0 ∷ [])
          (syntax.Apply (syntax.Name (named 12 2)) (both (syntax.Var 0) syntax.Nil))
          (MoreDefinitions (named 12 2) (0 ∷ 1 ∷ [])
          (syntax.Case (syntax.Var 0) (clause TheNil (syntax.Var 1)
          (clause (TheList (MorePatterns (AnyTerm 2) NoPatterns) (AnyTerm 3))
          (syntax.Apply (syntax.Name (named 12 2))
          (both (syntax.Var 3) (syntax.ListOf 0 (one (syntax.Var 2)) (syntax.Var 1))))
          badarg_clause)))
          (MoreDefinitions (named 13 2) (0 ∷ 1 ∷ [])
          (erlang 11 (both (syntax.Var 0) (syntax.Var 1))) NoDefinitions));
    }
    ∷ []

-- a program with this body of 'main'/0, and this of 'child'/0
abbrev pub modules : Syntax → Syntax → List ModuleSyntax
modules main child = record {
  name = 7;
  functions = MoreDefinitions (named 8 0) [] main
      (MoreDefinitions (named 28 0) [] child NoDefinitions);
} ∷ prelude

abbrev pub program : Syntax → Syntax → List FunctionTree
program main child = function_trees names [] (module_trees (modules main child))

abbrev pub nothing : Syntax
nothing = syntax.Atom 17

abbrev pub limit : ℕ
limit = 10000000

abbrev line : List ℕ → List ℕ
line text = text ++ 10 ∷ []

abbrev pub event : ℕ → ℕ → Step
event pid place = record { pid = pid; item = item.Event place }

abbrev pub took : ℕ → ℕ → Step
took pid place = record { pid = pid; item = item.Took place }

abbrev pub lapsed : ℕ → ℕ → Step
lapsed pid seen = record { pid = pid; item = item.Lapsed seen }

-- the program whose main has this body runs by these steps to these ends, and writes this
abbrev Writes : Syntax → List Step → List End → List ℕ → Type 0
Writes main steps ends output =
    IsRunOf names [] (module_trees (modules main nothing)) limit NeverStopped steps ends output

-- the text of a value with which main ends at once
abbrev EndsWith : Syntax → List ℕ → Type 0
EndsWith main text = Writes main [] (Ended text ∷ []) (line (codes "0 ended " ++ text))

abbrev RaisesError : Syntax → List ℕ → Type 0
RaisesError main text =
    Writes main [] (Raised Error text ∷ []) (line (codes "0 raised error " ++ text))

-- numbers

abbrev pub least : Syntax
least = syntax.Int (negsuc 576460752303423487)

abbrev pub past_the_range : Syntax
past_the_range = erlang 20 (both (int 576460752303423487) (int 1))

abbrev pub least_divided : Syntax
least_divided = erlang 21 (both least (syntax.Int (negsuc 0)))

pub record NumbersHaveARange : Type 0 where
  pub past : RaisesError past_the_range (codes "'system_limit'")
  pub least_number : EndsWith least (codes "-576460752303423488")
  pub divided : RaisesError least_divided (codes "'system_limit'")

-- do erlang:display(erlang:div(-7, 2)) do erlang:display(erlang:rem(-7, 2)) erlang:div(1, 0)
abbrev pub division : Syntax
division =
    syntax.Do (display (erlang 21 (both (syntax.Int (negsuc 6)) (int 2))))
    (syntax.Do (display (erlang 22 (both (syntax.Int (negsuc 6)) (int 2))))
    (erlang 21 (both (int 1) (int 0))))

-- division cuts towards zero, and what was printed stays although what follows raises
abbrev pub DivisionCuts : Type 0
DivisionCuts = Writes division (event 0 0 ∷ event 0 1 ∷ []) (Raised Error (codes "'badarith'") ∷ [])
    (line (codes "-3") ++ line (codes "-1") ++ line (codes "0 raised error 'badarith'"))

-- messages

-- receive <P> -> S after 'infinity' -> 'true'
abbrev receive_one : Pattern → Syntax → Syntax
receive_one p s = syntax.Receive (clause p s syntax.NoClauses) (syntax.Atom 19) (syntax.Atom 0)

abbrev pub two_messages : Syntax
two_messages = syntax.Do (send self (syntax.Atom 15))
    (syntax.Do (send self (syntax.Atom 16))
    (syntax.Do (receive_one (TheAtom 16) (syntax.Atom 16))
    (receive_one (AnyTerm 0) (syntax.Var 0))))

-- a receive takes the first message that it accepts
abbrev pub ReceiveSelects : Type 0
ReceiveSelects = Writes two_messages (event 0 0 ∷ event 0 1 ∷ took 0 1 ∷ took 0 0 ∷ [])
    (Ended (codes "'a'") ∷ []) (line (codes "0 ended 'a'"))

abbrev pub no_clauses : Syntax
no_clauses = syntax.Receive syntax.NoClauses (int 0) (syntax.Atom 17)

abbrev pub only_b : Syntax
only_b = syntax.Do (send self (syntax.Atom 15))
    (syntax.Receive (clause (TheAtom 16) (syntax.Atom 18) syntax.NoClauses) (int 0)
    (syntax.Atom 17))

abbrev pub waits_for_ever : Syntax
waits_for_ever = receive_one (AnyTerm 0) (syntax.Var 0)

-- a timeout of 0 lapses where no message is accepted, and without one a process waits
pub record ReceiveLapsesOrWaits : Type 0 where
  pub without_clauses : Writes no_clauses (lapsed 0 0 ∷ []) (Ended (codes "'no'") ∷ [])
      (line (codes "0 ended 'no'"))
  pub not_accepted : Writes only_b (event 0 0 ∷ lapsed 0 1 ∷ []) (Ended (codes "'no'") ∷ [])
      (line (codes "0 ended 'no'"))
  pub waits : Writes waits_for_ever [] (Waits ∷ []) (line (codes "0 waits"))

-- receive <'b'> -> 'b' <'a'> -> 'a' after 'infinity' -> 'true'
abbrev pub either : Syntax
either =
    syntax.Do (send self (syntax.Atom 15))
    (syntax.Do (send self (syntax.Atom 16))
    (syntax.Receive
    (clause (TheAtom 16) (syntax.Atom 16)
    (clause (TheAtom 15) (syntax.Atom 15) syntax.NoClauses)) (syntax.Atom 19) (syntax.Atom 0)))

-- the first message that some clause accepts goes before the first clause
abbrev pub MessageBeforeClause : Type 0
MessageBeforeClause = Writes either (event 0 0 ∷ event 0 1 ∷ took 0 0 ∷ [])
    (Ended (codes "'a'") ∷ []) (line (codes "0 ended 'a'"))

-- guards and arguments

-- case 1 of <V0> when erlang:div(1, 0) -> 'a' <V0> when 'b' -> 'b' <V0> when 'true' -> 'yes' end
abbrev pub guarded : Syntax
guarded =
    syntax.Case (int 1) (syntax.MoreClauses (MorePatterns (AnyTerm 0) NoPatterns)
    (erlang 21 (both (int 1) (int 0))) (syntax.Atom 15)
    (syntax.MoreClauses (MorePatterns (AnyTerm 0) NoPatterns) (syntax.Atom 16) (syntax.Atom 16)
    (clause (AnyTerm 0) (syntax.Atom 18) syntax.NoClauses)))

-- a guard that raises, or that gives another value than 'true', does not hold
abbrev pub GuardsHoldByTrue : Type 0
GuardsHoldByTrue = EndsWith guarded (codes "'yes'")

-- {erlang:display(1), erlang:display(2)}
abbrev pub shown_in_order : Syntax
shown_in_order = syntax.Tuple 0 (both (display (int 1)) (display (int 2)))

abbrev pub PartsGoFromLeft : Type 0
PartsGoFromLeft = Writes shown_in_order (event 0 0 ∷ event 0 1 ∷ [])
    (Ended (codes "{'true','true'}") ∷ []) (line (codes "1") ++ line (codes "2")
    ++ line (codes "0 ended {'true','true'}"))

-- texts and order

-- erlang:display({[1, 2|3], "ab", [], {}, 'it\'s', erlang:self()})
abbrev pub printed_source : Syntax
printed_source =
    display (syntax.Tuple 0 (MoreSyntax (syntax.ListOf 0 (both (int 1) (int 2)) (int 3))
    (MoreSyntax (syntax.Str (codes "ab"))
    (MoreSyntax syntax.Nil (MoreSyntax (syntax.Tuple 0 NoSyntax) (both (syntax.Atom 33) self))))))

abbrev pub TermsPrint : Type 0
TermsPrint = Writes printed_source (event 0 0 ∷ []) (Ended (codes "'true'") ∷ [])
    (line (codes "{[1,2|3],[97,98],[],{},'it\\'s',<0.0.0>}") ++ line (codes "0 ended 'true'"))

abbrev less : Syntax → Syntax → Syntax
less s t = erlang 26 (both s t)

-- {1 < 'a', 'a' < self(), self() < {}, {2} < {1, 1}, {} < [], [] < [1]}
abbrev pub ordered_source : Syntax
ordered_source =
    syntax.Tuple 0
    (MoreSyntax (less (int 1) (syntax.Atom 15))
    (MoreSyntax (less (syntax.Atom 15) self)
    (MoreSyntax (less self (syntax.Tuple 0 NoSyntax))
    (MoreSyntax (less (syntax.Tuple 0 (one (int 2))) (syntax.Tuple 0 (both (int 1) (int 1))))
    (both (less (syntax.Tuple 0 NoSyntax) syntax.Nil)
    (less syntax.Nil (syntax.ListOf 0 (one (int 1)) syntax.Nil)))))))

abbrev pub TermsAreOrdered : Type 0
TermsAreOrdered = EndsWith ordered_source (codes "{'true','true','true','true','true','true'}")

-- raises

abbrev pub to_no_pid : Syntax
to_no_pid = send (syntax.Atom 32) (int 1)

abbrev pub case_of_nothing : Syntax
case_of_nothing = syntax.Case (int 1) (clause (TheInt (pos 2)) (int 2) syntax.NoClauses)

abbrev failed_with : ℕ → Syntax
failed_with a = syntax.Primop 30 (one (syntax.Tuple 0 (both (syntax.Atom a) (int 1))))

abbrev pub fails_in_a_function : Syntax
fails_in_a_function = failed_with 6

abbrev pub fails_to_match : Syntax
fails_to_match = failed_with 31

abbrev pub throws : Syntax
throws = erlang 29 (one (int 3))

pub record RaisesEnd : Type 0 where
  pub send_to_no_pid : RaisesError to_no_pid (codes "'badarg'")
  pub no_clause : RaisesError case_of_nothing (codes "'no_clause'")
  pub function_clause : RaisesError fails_in_a_function (codes "'function_clause'")
  pub badmatch : RaisesError fails_to_match (codes "{'badmatch',1}")
  pub throw : Writes throws [] (Raised Throw (codes "3") ∷ []) (line (codes "0 raised throw 3"))

-- calls

-- lists:reverse(erlang:++([1], [2, 3]))
abbrev pub reversed : Syntax
reversed = syntax.Call (syntax.Atom 10) (syntax.Atom 12)
    (one (erlang 11 (both (syntax.ListOf 0 (one (int 1)) syntax.Nil)
    (syntax.ListOf 0 (both (int 2) (int 3)) syntax.Nil))))

-- functions of the prelude count as others do: two calls of '++', one of reverse/1 and four of
-- reverse/2
pub record PreludeCounts : Type 0 where
  pub writes : EndsWith reversed (codes "[3,2,1]")
  pub all_spent : (runs_of (program reversed nothing) atoms 7 0 0 [] []).calls ≡ 0
  pub too_few : (runs_of (program reversed nothing) atoms 6 0 0 [] []).end ≡ Spent

-- the start call costs none
abbrev pub StartCostsNothing : Type 0
StartCostsNothing = IsRunOf names [] (module_trees (modules nothing nothing)) 0 NeverStopped []
    (Ended (codes "'no'") ∷ []) (line (codes "0 ended 'no'"))

-- two processes

-- erlang:!(erlang:spawn('m', 'child', []), 8)
abbrev pub parent : Syntax
parent = send (erlang 27 (MoreSyntax (syntax.Atom 7) (both (syntax.Atom 28) syntax.Nil))) (int 8)

-- receive <V0> -> erlang:display(V0) after 'infinity' -> 'true'
abbrev pub child : Syntax
child = receive_one (AnyTerm 0) (display (syntax.Var 0))

-- a spawn, a send to the child, its take and its print, and both ends
abbrev pub ParentAndChild : Type 0
ParentAndChild =
    IsRunOf names [] (module_trees (modules parent child)) limit NeverStopped
    (event 0 0 ∷ event 0 1 ∷ took 1 1 ∷ event 1 2 ∷ [])
    (Ended (codes "8") ∷ Ended (codes "'true'") ∷ [])
    (line (codes "8") ++ line (codes "0 ended 8") ++ line (codes "1 ended 'true'"))

-- what is no run

abbrev Run : Syntax → Syntax → List Step → Option (Configuration Term)
Run main other steps = after_run (program main other) atoms limit 0 steps

abbrev pub two_and_take : Syntax
two_and_take =
    syntax.Do (send self (syntax.Atom 15)) (syntax.Do (send self (syntax.Atom 16)) waits_for_ever)

abbrev pub one_and_poll : Syntax
one_and_poll = syntax.Do (send self (syntax.Atom 15))
    (syntax.Receive (clause (AnyTerm 0) (syntax.Var 0) syntax.NoClauses) (int 0) (syntax.Atom 17))

pub record AreNoRuns : Type 0 where
  pub take_before_send : Run parent child (event 0 0 ∷ took 1 1 ∷ []) ≡ None
  pub take_of_later : Run two_and_take nothing (event 0 0 ∷ event 0 1 ∷ took 0 1 ∷ []) ≡ None
  pub take_by_first_clause : Run either nothing (event 0 0 ∷ event 0 1 ∷ took 0 1 ∷ []) ≡ None
  pub lapse_beside_accepted : Run one_and_poll nothing (event 0 0 ∷ lapsed 0 1 ∷ []) ≡ None
