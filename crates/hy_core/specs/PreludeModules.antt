-- The two modules that each program has beside those that are given; which functions they have is
-- this project's own.
--
--     module 'erlang' ['++'/2] attributes []
--     '++'/2 = fun (X,Y) -> case X of
--       <[]> when 'true' -> Y
--       <[H|T]> when 'true' -> [H|apply '++'/2(T,Y)]
--       <Z> when 'true' -> call 'erlang':'error'('badarg') end
--     end
--
--     module 'lists' ['reverse'/1,'reverse'/2,'append'/2] attributes []
--     'reverse'/1 = fun (X) -> apply 'reverse'/2(X,[])
--     'reverse'/2 = fun (X,Y) -> case X of
--       <[]> when 'true' -> Y
--       <[H|T]> when 'true' -> apply 'reverse'/2(T,[H|Y])
--       <Z> when 'true' -> call 'erlang':'error'('badarg') end
--     'append'/2 = fun (X,Y) -> call 'erlang':'++'(X,Y)
--     end
use Rattle.std.specs.Prelude.{ℕ, List, [], ◌∷◌, codes}
use Rattle.hy_core.specs.Expressions.{function, clause_of}
use Rattle.hy_core.specs.declared.tree.FunName.{FunName}
use Rattle.hy_core.specs.declared.tree.Pattern.TheVariants as p
use Rattle.hy_core.specs.declared.tree.Expr.{Expr}
use Rattle.hy_core.specs.declared.tree.Expr.TheVariants as e
use Rattle.hy_core.specs.declared.tree.Module.{Module}
use Rattle.hy_core.specs.declared.tree.Program.{Program}

-- the variables of both modules
abbrev pub the_x : ℕ
the_x = 0

abbrev pub the_y : ℕ
the_y = 1

abbrev pub the_h : ℕ
the_h = 2

abbrev pub the_t : ℕ
the_t = 3

abbrev pub the_z : ℕ
the_z = 4

abbrev pub variable_names : List (List ℕ)
variable_names = codes "X" ∷ codes "Y" ∷ codes "H" ∷ codes "T" ∷ codes "Z" ∷ []

abbrev pub named_with : ℕ → ℕ → FunName
named_with name arity = record { name = name; arity = arity }

-- case X of <[]> when 'true' -> Y <[H|T]> when 'true' -> .. <Z> when 'true' -> call
-- 'erlang':'error'('badarg') end
abbrev pub over_list : (true erlang error badarg : ℕ) → Expr → Expr
over_list true erlang error badarg step =
    e.Case (e.Var the_x) (
    clause_of (p.Nil ∷ []) (e.Atom true) (e.Var the_y)
    ∷ clause_of (p.List (p.Var the_h ∷ []) (p.Var the_t) ∷ []) (e.Atom true) step
    ∷ clause_of (p.Var the_z ∷ []) (e.Atom true)
    (e.Call (e.Atom erlang) (e.Atom error) (e.Atom badarg ∷ []))
    ∷ []
    )

-- [H|..]
abbrev pub head_before : Expr → Expr
head_before tail = e.List 0 (e.Var the_h ∷ []) tail

abbrev pub the_module_erlang : Module
the_module_erlang =
    let append : FunName = named_with 1 2 in
    record {
      name = 0;
      exports = append ∷ [];
      functions = function append (the_x ∷ the_y ∷ [])
          (over_list 2 0 3 4
          (head_before (e.Apply (e.Name append) (e.Var the_t ∷ e.Var the_y ∷ [])))) ∷ [];
      atoms = codes "erlang" ∷ codes "++" ∷ codes "true" ∷ codes "error" ∷ codes "badarg" ∷ [];
      variables = variable_names;
    }

abbrev pub the_module_lists : Module
the_module_lists =
    let reverse_one : FunName = named_with 1 1 in
    let reverse_two : FunName = named_with 1 2 in
    let append : FunName = named_with 2 2 in
    record {
      name = 0;
      exports = reverse_one ∷ reverse_two ∷ append ∷ [];
      functions =
          function reverse_one (the_x ∷ [])
          (e.Apply (e.Name reverse_two) (e.Var the_x ∷ e.Nil ∷ []))
          ∷ function reverse_two (the_x ∷ the_y ∷ [])
          (over_list 3 4 5 6
          (e.Apply (e.Name reverse_two) (e.Var the_t ∷ head_before (e.Var the_y) ∷ [])))
          ∷ function append (the_x ∷ the_y ∷ [])
          (e.Call (e.Atom 4) (e.Atom 7) (e.Var the_x ∷ e.Var the_y ∷ []))
          ∷ [];
      atoms = codes "lists" ∷ codes "reverse" ∷ codes "append" ∷ codes "true" ∷ codes "erlang"
          ∷ codes "error" ∷ codes "badarg" ∷ codes "++" ∷ [];
      variables = variable_names;
    }

abbrev pub prelude_modules : List Module
prelude_modules = the_module_erlang ∷ the_module_lists ∷ []

-- the program of these modules, with those of the prelude beside them
abbrev pub with_prelude : List Module → Program
with_prelude modules = record { given = modules; prelude = prelude_modules }
