-- The two modules of the prelude have their atoms in their own tables.
use Rattle.std.proofs.Common.{◌≡◌, ℕ, ◌<◌, List, [], ◌∷◌, ◌++◌, length, sym, subst, arith}
use Rattle.hy_core.specs.Expressions.{clause_of, function}
use Rattle.hy_core.specs.PreludeModules.{head_before, named_with, over_list, the_h, the_module_erlang}
use Rattle.hy_core.specs.PreludeModules.{the_module_lists, the_t, the_x, the_y, the_z}
use Rattle.hy_core.specs.declared.tables.Tables.{Tables}
use Rattle.hy_core.specs.declared.tree.Clause.{Clause}
use Rattle.hy_core.specs.declared.tree.Expr.{Expr}
use Rattle.hy_core.specs.declared.tree.Expr.TheOpen as layer
use Rattle.hy_core.specs.declared.tree.Expr.TheVariants as e
use Rattle.hy_core.specs.declared.tree.FunName.{FunName}
use Rattle.hy_core.specs.declared.tree.Module.{Module}
use Rattle.hy_core.specs.declared.tree.Pattern.{Pattern}
use Rattle.hy_core.specs.declared.tree.Pattern.TheOpen as pattern_layer
use Rattle.hy_core.specs.declared.tree.Pattern.TheVariants as p
use Rattle.core_lint.specs.ModuleAtoms.{clause_atoms, expr_atoms, function_atoms, module_atoms}
use Rattle.core_lint.specs.ModuleAtoms.{pattern_atoms}
use Rattle.read_atoms.proofs.Below.{Below}
use Rattle.read_atoms.proofs.GrammarAtoms.{OfPatterns, Reads, a_function, both, clause_is, expr_as}
use Rattle.read_atoms.proofs.GrammarAtoms.{nothing, pattern_as}

module _ (s : Tables) where
  one_number : (a : ℕ) → a < length s.atoms → Reads s s (a ∷ [])
  one_number a low = record { grows = omega arith; below = (low, tt) }

  an_atom : (a : ℕ) → a < length s.atoms → Reads s s (expr_atoms (e.Atom a))
  an_atom a low = expr_as (layer.Atom a) (e.Atom a) (e.rolls-Atom a) (one_number a low)

  a_name : (f : FunName) → f.name < length s.atoms → Reads s s (expr_atoms (e.Name f))
  a_name f low = expr_as (layer.Name f) (e.Name f) (e.rolls-Name f) (one_number f.name low)

  a_variable : (x : ℕ) → Reads s s (expr_atoms (e.Var x))
  a_variable x = expr_as (layer.Var x) (e.Var x) (e.rolls-Var x) (nothing s)

  a_nil : Reads s s (expr_atoms e.Nil)
  a_nil = expr_as layer.Nil e.Nil e.rolls-Nil (nothing s)

  a_head : (tail : Expr) → Reads s s (expr_atoms tail) → Reads s s (expr_atoms (head_before tail))
  a_head tail h =
      expr_as (layer.List 0 (e.Var the_h ∷ []) tail) (head_before tail)
      (e.rolls-List 0 (e.Var the_h ∷ []) tail) (both (both (a_variable the_h) (nothing s)) h)

  applied : (f : FunName) (x y : Expr) → f.name < length s.atoms → Reads s s (expr_atoms x)
      → Reads s s (expr_atoms y) → Reads s s (expr_atoms (e.Apply (e.Name f) (x ∷ y ∷ [])))
  applied f x y low h k =
      expr_as (layer.Apply (e.Name f) (x ∷ y ∷ [])) (e.Apply (e.Name f) (x ∷ y ∷ []))
      (e.rolls-Apply (e.Name f) (x ∷ y ∷ [])) (both (a_name f low) (both h (both k (nothing s))))

  pattern_nil : Reads s s (pattern_atoms p.Nil)
  pattern_nil = pattern_as pattern_layer.Nil p.Nil p.rolls-Nil (nothing s)

  pattern_variable : (x : ℕ) → Reads s s (pattern_atoms (p.Var x))
  pattern_variable x = pattern_as (pattern_layer.Var x) (p.Var x) (p.rolls-Var x) (nothing s)

  pattern_cons : Reads s s (pattern_atoms (p.List (p.Var the_h ∷ []) (p.Var the_t)))
  pattern_cons =
      pattern_as (pattern_layer.List (p.Var the_h ∷ []) (p.Var the_t))
      (p.List (p.Var the_h ∷ []) (p.Var the_t)) (p.rolls-List (p.Var the_h ∷ []) (p.Var the_t))
      (both (both (pattern_variable the_h) (nothing s)) (pattern_variable the_t))

  a_clause : (pattern : Pattern) (true : ℕ) (body : Expr) → Reads s s (pattern_atoms pattern)
      → true < length s.atoms → Reads s s (expr_atoms body)
      → Reads s s (clause_atoms (clause_of (pattern ∷ []) (e.Atom true) body))
  a_clause pattern true body h low k =
      subst (Reads s s) (sym (clause_is (clause_of (pattern ∷ []) (e.Atom true) body)))
      (both (both (both h (nothing s)) (an_atom true low)) k)

  walked : (true erlang error badarg : ℕ) (step : Expr) → true < length s.atoms
      → erlang < length s.atoms → error < length s.atoms → badarg < length s.atoms
      → Reads s s (expr_atoms step)
      → Reads s s (expr_atoms (over_list true erlang error badarg step))
  walked true erlang error badarg step t l r b h =
      let fails : Expr = e.Call (e.Atom erlang) (e.Atom error) (e.Atom badarg ∷ []) in
      let failing : Reads s s (expr_atoms fails) =
      expr_as (layer.Call (e.Atom erlang) (e.Atom error) (e.Atom badarg ∷ [])) fails
      (e.rolls-Call (e.Atom erlang) (e.Atom error) (e.Atom badarg ∷ []))
      (both (both (an_atom erlang l) (an_atom error r)) (both (an_atom badarg b) (nothing s))) in
      let cs : List Clause =
      clause_of (p.Nil ∷ []) (e.Atom true) (e.Var the_y)
      ∷ clause_of (p.List (p.Var the_h ∷ []) (p.Var the_t) ∷ []) (e.Atom true) step
      ∷ clause_of (p.Var the_z ∷ []) (e.Atom true) fails ∷ [] in
      expr_as (layer.Case (e.Var the_x) cs) (over_list true erlang error badarg step)
      (e.rolls-Case (e.Var the_x) cs)
      (both (a_variable the_x)
      (both (a_clause p.Nil true (e.Var the_y) pattern_nil t (a_variable the_y))
      (both
      (a_clause (p.List (p.Var the_h ∷ []) (p.Var the_t)) true step pattern_cons t h)
      (both (a_clause (p.Var the_z) true fails (pattern_variable the_z) t failing) (nothing s)))))

abbrev tables_of : Module → Tables
tables_of m = record { atoms = m.atoms; variables = [] }

pub erlang_own : Below (length the_module_erlang.atoms) (module_atoms the_module_erlang)
erlang_own =
    let s = tables_of the_module_erlang in
    let append : FunName = named_with 1 2 in
    let step = e.Apply (e.Name append) (e.Var the_t ∷ e.Var the_y ∷ []) in
    (both (both (one_number s 0 (omega arith)) (both (one_number s 1 (omega arith)) (nothing s)))
    (both
    (a_function (function append (the_x ∷ the_y ∷ []) (over_list 2 0 3 4 (head_before step)))
    (one_number s 1 (omega arith))
    (walked s 2 0 3 4 (head_before step) (omega arith) (omega arith) (omega arith) (omega arith)
    (a_head s step
    (applied s append (e.Var the_t) (e.Var the_y) (omega arith) (a_variable s the_t)
    (a_variable s the_y)))))
    (nothing s))).below

pub lists_own : Below (length the_module_lists.atoms) (module_atoms the_module_lists)
lists_own =
    let s = tables_of the_module_lists in
    let reverse_one : FunName = named_with 1 1 in
    let reverse_two : FunName = named_with 1 2 in
    let append : FunName = named_with 2 2 in
    let step =
    e.Apply (e.Name reverse_two) (e.Var the_t ∷ head_before (e.Var the_y) ∷ []) in
    let called = e.Call (e.Atom 4) (e.Atom 7) (e.Var the_x ∷ e.Var the_y ∷ []) in
    (both
    (both (one_number s 0 (omega arith))
    (both (one_number s 1 (omega arith))
    (both (one_number s 1 (omega arith)) (both (one_number s 2 (omega arith)) (nothing s)))))
    (both
    (a_function
    (function reverse_one (the_x ∷ [])
    (e.Apply (e.Name reverse_two) (e.Var the_x ∷ e.Nil ∷ [])))
    (one_number s 1 (omega arith))
    (applied s reverse_two (e.Var the_x) e.Nil (omega arith) (a_variable s the_x) (a_nil s)))
    (both
    (a_function (function reverse_two (the_x ∷ the_y ∷ []) (over_list 3 4 5 6 step))
    (one_number s 1 (omega arith))
    (walked s 3 4 5 6 step (omega arith) (omega arith) (omega arith) (omega arith)
    (applied s reverse_two (e.Var the_t) (head_before (e.Var the_y)) (omega arith)
    (a_variable s the_t) (a_head s (e.Var the_y) (a_variable s the_y)))))
    (both
    (a_function (function append (the_x ∷ the_y ∷ []) called) (one_number s 2 (omega arith))
    (expr_as (layer.Call (e.Atom 4) (e.Atom 7) (e.Var the_x ∷ e.Var the_y ∷ [])) called
    (e.rolls-Call (e.Atom 4) (e.Atom 7) (e.Var the_x ∷ e.Var the_y ∷ []))
    (both (both (an_atom s 4 (omega arith)) (an_atom s 7 (omega arith)))
    (both (a_variable s the_x) (both (a_variable s the_y) (nothing s))))))
    (nothing s))))).below
