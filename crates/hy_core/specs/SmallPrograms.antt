-- Small programs of one module 'm', whose atoms are named by their texts.
use Rattle.std.specs.Prelude.{ℕ, List, [], ◌∷◌, ◌++◌, codes, pos, unwrap_or}
use Rattle.hy_terms.specs.Naming.{place_in}
use Rattle.hy_core.specs.declared.end.End.{End}
use Rattle.hy_core.specs.declared.end.End.TheVariants.{Ended}
use Rattle.hy_core.specs.declared.info.FunInfo.{FunInfo}
use Rattle.hy_core.specs.declared.step.Step.{Step}
use Rattle.hy_core.specs.declared.tree.FunName.{FunName}
use Rattle.hy_core.specs.BuiltIn.{own_atoms}
use Rattle.hy_core.specs.FullRun.{NeverStopped}
use Rattle.hy_core.specs.WrittenRun.{IsRunOf}
use Rattle.hy_core.specs.Resolve.{Names}
use Rattle.hy_core.specs.Syntax as syntax
use Rattle.hy_core.specs.Syntax.{Syntax, Syntaxes, NoSyntax, MoreSyntax, NoDefinitions, MoreDefinitions, ModuleSyntax, module_trees}
use Rattle.hy_core.specs.Worked.{limit}

abbrev pub texts : List (List ℕ)
texts =
    own_atoms ++ codes "m" ∷ codes "main" ∷ codes "f" ∷ codes "child"
    ∷ codes "erlang" ∷ codes "display" ∷ codes "self" ∷ codes "spawn" ∷ codes "send"
    ∷ codes "error" ∷ codes "exit" ∷ codes "infinity"
    ∷ codes "=:=" ∷ codes "==" ∷ codes "=/=" ∷ codes "/="
    ∷ codes "<" ∷ codes ">" ∷ codes "=<" ∷ codes ">="
    ∷ codes "and" ∷ codes "or" ∷ codes "xor" ∷ codes "not"
    ∷ codes "is_integer" ∷ codes "is_number" ∷ codes "is_atom" ∷ codes "is_boolean" ∷ codes "is_pid"
    ∷ codes "is_list" ∷ codes "is_tuple"
    ∷ codes "hd" ∷ codes "tl" ∷ codes "length" ∷ codes "tuple_size"
    ∷ codes "element" ∷ codes "setelement"
    ∷ codes "abs" ∷ codes "-" ∷ codes "band" ∷ codes "bor" ∷ codes "bxor" ∷ codes "+" ∷ codes "*"
    ∷ codes "a" ∷ codes "long" ∷ codes "short" ∷ codes "prefix"
    ∷ codes "module" ∷ codes "outer" ∷ codes "inner" ∷ []

-- the number of a text of the table
abbrev pub number_of : List ℕ → ℕ
number_of text = unwrap_or (place_in texts text) 0

abbrev pub atom : List ℕ → Syntax
atom text = syntax.Atom (number_of text)

abbrev pub int : ℕ → Syntax
int n = syntax.Int (pos n)

abbrev pub syntaxes : List Syntax → Syntaxes
syntaxes [] = NoSyntax
syntaxes (s ∷ ss) = MoreSyntax s (syntaxes ss)

abbrev pub tuple : List Syntax → Syntax
tuple ss = syntax.Tuple 0 (syntaxes ss)

abbrev pub list : List Syntax → Syntax
list ss = syntax.ListOf 0 (syntaxes ss) syntax.Nil

-- a call of the module 'erlang'
abbrev pub erlang : List ℕ → List Syntax → Syntax
erlang name arguments = syntax.Call (atom (codes "erlang")) (atom name) (syntaxes arguments)

abbrev pub function : List ℕ → ℕ → FunName
function name arity = record { name = number_of name; arity = arity }

abbrev of_module : FunName → FunInfo
of_module f = record { «module» = number_of (codes "m"); name = f }

abbrev main : FunName
main = function (codes "main") 0

abbrev pub f : FunName
f = function (codes "f") 1

abbrev child : FunName
child = function (codes "child") 2

abbrev pub names : Names
names = record { atoms = texts; functions = of_module main ∷ of_module f ∷ of_module child ∷ [] }

-- the module with this body of 'main'/0; 'f'/1 gives 'module', and 'child'/2 prints its arguments
abbrev pub modules : Syntax → List ModuleSyntax
modules body =
    record {
      name = number_of (codes "m");
      functions =
          MoreDefinitions main [] body
          (MoreDefinitions f (0 ∷ []) (atom (codes "module"))
          (MoreDefinitions child (0 ∷ 1 ∷ [])
          (erlang (codes "display") (tuple (syntax.Var 0 ∷ syntax.Var 1 ∷ []) ∷ []))
          NoDefinitions));
    }
    ∷ []

abbrev pub line : List ℕ → List ℕ
line text = text ++ 10 ∷ []

-- the program whose main has this body runs by these steps to these ends, and writes this
abbrev pub Writes : Syntax → List Step → List End → List ℕ → Type 0
Writes body steps ends output =
    IsRunOf names [] (module_trees (modules body)) limit NeverStopped steps ends output

-- main ends at once with a value of this text
abbrev pub EndsWith : Syntax → List ℕ → Type 0
EndsWith body text = Writes body [] (Ended text ∷ []) (line (codes "0 ended " ++ text))
