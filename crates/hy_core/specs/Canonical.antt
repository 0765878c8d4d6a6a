-- The canonical text of a module: its tokens in the order of the grammar, joined by single spaces,
-- then a line feed. Each token stands here with the space before it. The choice of the text is this
-- project's own.
use Rattle.std.specs.Prelude.{ℕ, pos, Bool, true, false, if◌then◌else◌, List, [], ◌∷◌, ◌++◌, codes, map}
use Rattle.hy_terms.specs.Naming.{text_of}
use Rattle.hy_terms.specs.Texts.{int_text, atom_text, quoted}
use Rattle.hy_core.specs.declared.tree.FunName.{FunName}
use Rattle.hy_core.specs.declared.tree.Pattern.{Pattern}
use Rattle.hy_core.specs.declared.tree.Pattern.TheOpen as p
use Rattle.hy_core.specs.declared.tree.Pattern.TheOpen.{Pattern-F}
use Rattle.hy_core.specs.declared.tree.Pattern.TheFolds.{fold-Pattern}
use Rattle.hy_core.specs.declared.tree.Expr.{Expr}
use Rattle.hy_core.specs.declared.tree.Expr.TheOpen as e
use Rattle.hy_core.specs.declared.tree.Expr.TheOpen.{Expr-F, Clause-F, Function-F}
use Rattle.hy_core.specs.declared.tree.Expr.TheFolds.{fold-Expr, fold-Clause, fold-Function}
use Rattle.hy_core.specs.declared.tree.Clause.{Clause}
use Rattle.hy_core.specs.declared.tree.Function.{Function}
use Rattle.hy_core.specs.declared.tree.Module.{Module}

-- one token, with the space before it
abbrev pub token : List ℕ → List ℕ
token text = 32 ∷ text

abbrev pub after_commas : List (List ℕ) → List ℕ
after_commas [] = []
after_commas (text ∷ texts) = codes " ," ++ text ++ after_commas texts

-- texts with commas between them
abbrev pub with_commas : List (List ℕ) → List ℕ
with_commas [] = []
with_commas (text ∷ texts) = text ++ after_commas texts

abbrev pub one_after_another : List (List ℕ) → List ℕ
one_after_another [] = []
one_after_another (text ∷ texts) = text ++ one_after_another texts

-- the text of a part, and whether the part is nil
pub record Part : Type 0 where
  pub text : List ℕ
  pub is_nil : Bool

-- a part that isn't nil
abbrev pub part : List ℕ → Part
part text = record { text = text; is_nil = false }

abbrev pub nil : Part
nil = record { text = codes " [ ]"; is_nil = true }

abbrev pub texts_of : List Part → List (List ℕ)
texts_of parts = map (λ x. x.text) parts

-- what ends a list notation: no bar stands before nil
abbrev pub list_end : Part → List ℕ
list_end tail = if tail.is_nil then codes " ]" else codes " |" ++ tail.text ++ codes " ]"

abbrev pub list_text : List Part → Part → List ℕ
list_text heads tail = codes " [" ++ with_commas (texts_of heads) ++ list_end tail

-- The names in a tree are places in the tables of its module.
module _ (names : Module) where
  abbrev pub variable_text : ℕ → List ℕ
  variable_text variable = token (text_of names.variables variable)

  abbrev pub atom_token : ℕ → List ℕ
  atom_token atom = token (atom_text (text_of names.atoms atom))

  -- a function's name is three tokens
  abbrev pub name_text : FunName → List ℕ
  name_text f = atom_token f.name ++ codes " /" ++ token (int_text (pos f.arity))

  abbrev pub variables_text : List ℕ → List ℕ
  variables_text variables = with_commas (map variable_text variables)

  -- what values are bound to
  abbrev pub binding_text : List ℕ → List ℕ
  binding_text variables = codes " <" ++ variables_text variables ++ codes " >"

  -- what values are bound to, and what they are bound in
  abbrev pub arm_text : List ℕ → List ℕ → List ℕ
  arm_text variables body = binding_text variables ++ codes " ->" ++ body

  abbrev pub fun_text : List ℕ → List ℕ → List ℕ
  fun_text params body = codes " fun (" ++ variables_text params ++ codes " ) ->" ++ body

  -- one pattern, with the texts of its parts in their places
  abbrev pub pattern_step : Pattern-F Part → Part
  pattern_step (p.Var x) = part (variable_text x)
  pattern_step (p.Int n) = part (token (int_text n))
  pattern_step (p.Atom a) = part (atom_token a)
  pattern_step p.Nil = nil
  pattern_step (p.Str text) = part (token (quoted 34 text))
  pattern_step (p.Tuple parts) = part (codes " {" ++ with_commas (texts_of parts) ++ codes " }")
  pattern_step (p.List heads tail) = part (list_text heads tail)
  pattern_step (p.Alias x pattern) = part (variable_text x ++ codes " =" ++ pattern.text)

  abbrev pub pattern_part : Pattern → Part
  pattern_part = fold-Pattern Part pattern_step

  abbrev pub pattern_text : Pattern → List ℕ
  pattern_text x = (pattern_part x).text

  -- one expression, with the texts of its parts in their places
  abbrev pub expr_step : Expr-F Part (List ℕ) (List ℕ) → Part
  expr_step (e.Int n) = part (token (int_text n))
  expr_step (e.Atom a) = part (atom_token a)
  expr_step e.Nil = nil
  expr_step (e.Str text) = part (token (quoted 34 text))
  expr_step (e.Var x) = part (variable_text x)
  expr_step (e.Name f) = part (name_text f)
  expr_step (e.Tuple site parts) = part (codes " {" ++ with_commas (texts_of parts) ++ codes " }")
  expr_step (e.List site heads tail) = part (list_text heads tail)
  expr_step (e.Values parts) = part (codes " <" ++ with_commas (texts_of parts) ++ codes " >")
  expr_step (e.Let vars value body) = part (codes " let" ++ binding_text vars ++ codes " ="
      ++ value.text ++ codes " in" ++ body.text)
  expr_step (e.Do first second) = part (codes " do" ++ first.text ++ second.text)
  expr_step (e.Case value clauses) =
      part (codes " case" ++ value.text ++ codes " of" ++ one_after_another clauses ++ codes " end")
  expr_step (e.Letrec functions body) =
      part (codes " letrec" ++ one_after_another functions ++ codes " in" ++ body.text)
  expr_step (e.Apply what args) =
      part (codes " apply" ++ what.text ++ codes " (" ++ with_commas (texts_of args) ++ codes " )")
  expr_step (e.Call m f args) = part (codes " call" ++ m.text ++ codes " :" ++ f.text ++ codes " ("
      ++ with_commas (texts_of args) ++ codes " )")
  expr_step (e.Primop name args) = part (codes " primop" ++ atom_token name ++ codes " ("
      ++ with_commas (texts_of args) ++ codes " )")
  expr_step (e.Receive clauses timeout body) = part (codes " receive" ++ one_after_another clauses
      ++ codes " after" ++ timeout.text ++ codes " ->" ++ body.text)
  expr_step (e.Try value vars body catch_vars catch_body) =
      part (codes " try" ++ value.text ++ codes " of" ++ arm_text vars body.text ++ codes " catch"
      ++ arm_text catch_vars catch_body.text)
  expr_step (e.Catch value) = part (codes " catch" ++ value.text)
  expr_step (e.Fun params body) = part (fun_text params body.text)

  abbrev pub clause_step : Clause-F Part (List ℕ) (List ℕ) → List ℕ
  clause_step c = codes " <" ++ with_commas (texts_of (map pattern_part c.patterns))
      ++ codes " > when" ++ c.guard.text ++ codes " ->" ++ c.body.text

  abbrev pub function_step : Function-F Part (List ℕ) (List ℕ) → List ℕ
  function_step f = name_text f.name ++ codes " =" ++ fun_text f.params f.body.text

  abbrev pub expr_part : Expr → Part
  expr_part = fold-Expr Part (List ℕ) (List ℕ) expr_step clause_step function_step

  abbrev pub expr_text : Expr → List ℕ
  expr_text x = (expr_part x).text

  abbrev pub clause_text : Clause → List ℕ
  clause_text = fold-Clause Part (List ℕ) (List ℕ) expr_step clause_step function_step

  abbrev pub function_text : Function → List ℕ
  function_text = fold-Function Part (List ℕ) (List ℕ) expr_step clause_step function_step

-- the text of a module, which begins with no space
abbrev pub canonical_text : Module → List ℕ
canonical_text m =
    codes "module" ++ atom_token m m.name ++ codes " [" ++ with_commas (map (name_text m) m.exports)
    ++ codes " ] attributes [ ]"
    ++ one_after_another (map (function_text m) m.functions) ++ codes " end\n"
