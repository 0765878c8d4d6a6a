-- Two small programs, what their functions capture, and the programs that they are lifted to.
use Rattle.std.specs.Prelude.{◌≡◌, ℕ, List, [], ◌∷◌, pos, slice_get, unwrap_or}
use Rattle.hy_terms.specs.Term as term
use Rattle.hy_terms.specs.Term.{NoTerms, MoreTerms}
use Rattle.hy_core.specs.declared.tree.FunName.{FunName}
use Rattle.hy_core.specs.Computation.{Values}
use Rattle.hy_core.specs.Evaluation.{Evaluated, Top, body_of, evaluated}
use Rattle.hy_core.specs.Resolved as r
use Rattle.hy_core.specs.Resolved.{Expression, Expressions, NoExpressions, MoreExpressions}
use Rattle.hy_core.specs.Resolved.{NoFunctions, MoreFunctions, FunctionTree}
use Rattle.lifted_program.specs.Captured.{AreCaptured}
use Rattle.lifted_program.specs.LiftedProgram.{lifted_program}
use Rattle.lifted_program.specs.Renaming.{renamed_program}

abbrev named : (name arity : ℕ) → FunName
named name arity = record { name = name; arity = arity }

abbrev none : Expressions
none = NoExpressions

abbrev one : Expression → Expressions
one e = MoreExpressions e none

abbrev two : Expression → Expression → Expressions
two e f = MoreExpressions e (one f)

abbrev three : Expression → Expression → Expression → Expressions
three e f g = MoreExpressions e (two f g)

abbrev v : ℕ → Expression
v = r.Variable

abbrev int : ℕ → Expression
int n = r.Int (pos n)

abbrev bind : ℕ → Expression → Expression → Expression
bind x e b = r.Let (x ∷ []) e b

abbrev apply : FunName → Expressions → Expression
apply f es = r.Call (r.Local f) es

abbrev call : ℕ → Expressions → Expression
call k es = r.Call (r.Function k) es

abbrev function : (parameters : List ℕ) → Expression → FunctionTree
function xs e = record { parameters = xs; body = e }

-- what each function captures, by its number
abbrev pub by_number : List (List ℕ) → ℕ → List ℕ
by_number lists f = unwrap_or (slice_get lists f) []

-- the source is renamed so, its functions of letrecs capture exactly these, and it is lifted to
-- this program
abbrev IsLiftedSo : (source renamed : List FunctionTree) → (captured : List (List ℕ))
    → (program : List FunctionTree) → Type 0
IsLiftedSo source renamed captured program =
    (renamed_program 10 source ≡ renamed) × AreCaptured renamed (by_number captured)
    × (lifted_program (by_number captured) renamed ≡ program)

-- Two functions that apply each other, and a `let` that binds a variable that is in scope:
-- fun (V0) -> let <V1> = 5 in
--   letrec 'f'/0 = fun () -> {V1, apply 'g'/1 (7)}
--          'g'/1 = fun (V2) -> {V0, apply 'f'/0 ()}
--   in let <V1> = 6 in {V1, apply 'f'/0 ()}
-- Here x is the variable of the inner `let`.
abbrev mutual_body : ℕ → Expression
mutual_body x =
    bind 1 (int 5)
    (r.Letrec
    (MoreFunctions (named 7 0) [] (r.Tuple 0 (two (v 1) (apply (named 8 1) (one (int 7)))))
    (MoreFunctions (named 8 1) (2 ∷ []) (r.Tuple 1 (two (v 0) (apply (named 7 0) none)))
    NoFunctions))
    (bind x (int 6) (r.Tuple 2 (two (v x) (apply (named 7 0) none)))))

abbrev pub mutual_source : List FunctionTree
mutual_source = function (0 ∷ []) (mutual_body 1) ∷ []

-- the variables of its scope are two, and names from 10 on are new
abbrev pub mutual_renamed : List FunctionTree
mutual_renamed = function (0 ∷ []) (mutual_body 12) ∷ []

-- each captures what the other does
abbrev pub mutual_captured : List (List ℕ)
mutual_captured = [] ∷ (1 ∷ 0 ∷ []) ∷ (0 ∷ 1 ∷ []) ∷ []

abbrev mutual_program : List FunctionTree
mutual_program =
    function (0 ∷ [])
    (bind 1 (int 5) (bind 12 (int 6) (r.Tuple 2 (two (v 12) (call 1 (two (v 1) (v 0)))))))
    ∷ function (1 ∷ 0 ∷ []) (r.Tuple 0 (two (v 1) (call 2 (three (v 0) (v 1) (int 7)))))
    ∷ function (0 ∷ 1 ∷ 2 ∷ []) (r.Tuple 1 (two (v 0) (call 1 (two (v 1) (v 0))))) ∷ []

abbrev pub MutualFunctionsAreLifted : Type 0
MutualFunctionsAreLifted = IsLiftedSo mutual_source mutual_renamed mutual_captured mutual_program

-- A function in another one applies a function of the `letrec` around: what that captured comes
-- through.
-- fun (V0) ->
--   letrec 'f'/1 = fun (V1) ->
--            letrec 'h'/0 = fun () -> {V1, apply 'g'/0 ()} in apply 'h'/0 ()
--          'g'/0 = fun () -> V0
--   in apply 'f'/1 (9)
abbrev inner_body : Expression
inner_body =
    r.Letrec
    (MoreFunctions (named 9 0) [] (r.Tuple 0 (two (v 1) (apply (named 8 0) none))) NoFunctions)
    (apply (named 9 0) none)

abbrev pub inner_source : List FunctionTree
inner_source =
    function (0 ∷ [])
    (r.Letrec
    (MoreFunctions (named 7 1) (1 ∷ []) inner_body
    (MoreFunctions (named 8 0) [] (v 0) NoFunctions))
    (apply (named 7 1) (one (int 9))))
    ∷ []

-- 'f' is 1, 'h' is 2 and 'g' is 3; the parameter of 'f' is no variable of its letrec
abbrev pub inner_captured : List (List ℕ)
inner_captured = [] ∷ (0 ∷ []) ∷ (1 ∷ 0 ∷ []) ∷ (0 ∷ []) ∷ []

abbrev inner_program : List FunctionTree
inner_program =
    function (0 ∷ []) (call 1 (two (v 0) (int 9)))
    ∷ function (0 ∷ 1 ∷ []) (call 2 (two (v 1) (v 0)))
    ∷ function (1 ∷ 0 ∷ []) (r.Tuple 0 (two (v 1) (call 3 (one (v 0)))))
    ∷ function (0 ∷ []) (v 0) ∷ []

-- nothing in it is renamed
abbrev pub InnerFunctionsAreLifted : Type 0
InnerFunctionsAreLifted = IsLiftedSo inner_source inner_source inner_captured inner_program

-- what a program's function 0 does with 5 and ten calls
abbrev does : List FunctionTree → Evaluated
does program =
    evaluated program [] 0 10 (body_of program [] 0 (Top 0) (term.Int (pos 5) ∷ [])) []

-- {9, 5}, and seven calls are left
abbrev three_calls : Evaluated
three_calls = record {
  events = [];
  calls = 7;
  inputs = [];
  end = Values
      (term.Tuple
      (MoreTerms (term.Int (pos 9)) (MoreTerms (term.Int (pos 5)) NoTerms)) ∷ []);
}

-- each function calls the next, as it did
abbrev pub InnerFunctionsDoTheSame : Type 0
InnerFunctionsDoTheSame =
    (does inner_source ≡ three_calls) × (does inner_program ≡ three_calls)
