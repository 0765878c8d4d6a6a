-- A module is read again from the tokens of its canonical text.
use Rattle.std.proofs.Common.{◌≡◌, ℕ, ◌+◌, ◌≤◌, List, [], ◌∷◌, ◌++◌, codes, map, refl, sym, ap, subst, ◌∙◌, arith}
use Rattle.std.proofs.lemmas.List.{append_assoc, append-nil}
use Rattle.std.specs.Fmt.{decimal}
use Rattle.hy_core.specs.Marks.{Marked, symbol, value}
use Rattle.hy_core.specs.Numbering.{atom_number}
use Rattle.hy_core.specs.Annotations as notes
use Rattle.hy_core.specs.Expressions.{function}
use Rattle.hy_core.specs.Grammar as mods
use Rattle.hy_core.specs.Grammar.{IsDropped, IsExport, AreExports, AreMoreExports, AreDefinitions, IsModuleAt, IsModule}
use Rattle.hy_core.specs.Canonical.{token, after_commas, with_commas, one_after_another, atom_token, name_text, function_text, canonical_text}
use Rattle.hy_core.specs.declared.token.Symbol.{Symbol}
use Rattle.hy_core.specs.declared.token.Symbol.TheVariants as w
use Rattle.hy_core.specs.declared.token.Token.TheVariants as t
use Rattle.hy_core.specs.declared.tables.Tables.{Tables}
use Rattle.hy_core.specs.declared.tree.Module.{Module}
use Rattle.hy_core.specs.declared.tree.FunName.{FunName}
use Rattle.hy_core.specs.declared.tree.Function.{Function}
use Rattle.core_print.proofs.Spelling.{symbol_text, spaced, AreFine}
use Rattle.core_print.proofs.Tables.{Keeps, before_atom}
use Rattle.core_print.proofs.AgainPieces.{one_symbol, opened, ◌▷◌, before, deeper, same_text, first_part, next_part, another_part}
use Rattle.core_print.proofs.AgainLeft.{name_left, function_left, export_left, exports_left, attributes_left}
use Rattle.core_print.proofs.AgainStarts.{IsApart}
use Rattle.core_print.proofs.AgainParts.{Again, again_no_deeper}
use Rattle.core_print.proofs.AgainNames.{IsFineName, fine_name, arity_value, arity_again, atom_piece, name_piece}
use Rattle.core_print.proofs.AgainExprs.{function_piece, function_again}

-- a name that isn't dropped isn't dropped by its canonical digits
still_kept : {text digits : List ℕ} → IsFineName text digits → (IsDropped text digits → ⊥) → IsDropped text (decimal (value digits)) → ⊥
still_kept is never dropped = never (dropped.0, subst (λ (k : ℕ). k ≤ 1) (arity_value is) dropped.1)

-- exported names are read again, alone and behind another
record ExportsAgain (n : ℕ) (z : Module) (s : Tables) (close : Symbol) (xs : List FunName) (u : Tables) : Type 0 where
  alone : Again n z s (with_commas (map (name_text z) xs) ++ token (symbol_text close)) (λ k ms r. AreExports k close s ms xs u r)
  behind : Again n z s (after_commas (map (name_text z) xs) ++ token (symbol_text close)) (λ k ms r. AreMoreExports k close s ms xs u r)

module _ {z : Module} where
  export_again : {n : ℕ} {close : Symbol} {s u o : Tables} {ms q : List Marked} {xs ys : List FunName} → IsExport n s ms xs u q → AreFine ms → ExportsAgain n z u close ys o → ExportsAgain n z s close (xs ++ ys) o
  export_again {close = close} {s = s} {o = o} {ys = ys} (mods.kept {text = text} {digits = ds} d never) f more =
      let is = fine_name d f in
      let keeps = more.behind.keeps in
      let texts = map (name_text z) ys in
      let end = token (symbol_text close) in
      let p = first_part texts end (name_piece s text keeps is) more.behind.piece in
      let b = next_part texts end (name_piece s text keeps is) more.behind.piece in
      record {
        alone = record {
          piece = p;
          reads = λ k r. subst (λ (g : FunName). AreExports k close s (p.front k r) (g ∷ ys) o r) (arity_again (atom_number s text) is)
              (mods.some_exports (mods.kept (notes.name text (decimal (value ds))) (still_kept is never)) (more.behind.reads k r));
          keeps = before_atom s text keeps;
        };
        behind = record {
          piece = b;
          reads = λ k r. subst (λ (g : FunName). AreMoreExports k close s (b.front k r) (g ∷ ys) o r) (arity_again (atom_number s text) is)
              (mods.one_more (mods.kept (notes.name text (decimal (value ds))) (still_kept is never)) (more.behind.reads k r));
          keeps = before_atom s text keeps;
        };
      }
  export_again (mods.dropped d is) f more = more

  no_exports_again : {n : ℕ} {close : Symbol} {s : Tables} → Keeps s z → ExportsAgain n z s close [] s
  no_exports_again {close = close} keeps = record {
    alone = record { piece = one_symbol close; reads = λ k r. mods.no_exports; keeps = keeps };
    behind = record { piece = one_symbol close; reads = λ k r. mods.no_more; keeps = keeps };
  }

  more_exports_again : {n : ℕ} {close : Symbol} {s u : Tables} {ms q : List Marked} {xs : List FunName} → AreMoreExports n close s ms xs u q → Keeps u z → AreFine ms → ExportsAgain n z s close xs u
  more_exports_again mods.no_more keeps f = no_exports_again keeps
  more_exports_again (mods.one_more d more) keeps f = export_again d f.1 (more_exports_again more keeps (export_left d f.1))

  exports_again : {n : ℕ} {close : Symbol} {s u : Tables} {ms q : List Marked} {xs : List FunName} → AreExports n close s ms xs u q → Keeps u z → AreFine ms → ExportsAgain n z s close xs u
  exports_again mods.no_exports keeps f = no_exports_again keeps
  exports_again (mods.some_exports d more) keeps f = export_again d f (more_exports_again more keeps (export_left d f))

  definitions_again : {n : ℕ} {s u : Tables} {ms q : List Marked} {fs : List Function} → AreDefinitions n s ms fs u q → Keeps u z → AreFine ms
      → Again n z s (one_after_another (map (function_text z) fs) ++ codes " end") (λ k ms r. IsApart ms × AreDefinitions k s ms fs u r)
  definitions_again mods.no_definitions keeps f = record { piece = one_symbol w.End; reads = λ k r. (refl, mods.no_definitions); keeps = keeps }
  definitions_again {s = s} (mods.kept_definition {o = o} {text = text} {digits = ds} {vs = vs} {x = x} {fs = fs} d1 never d2 more) keeps f =
      let is = fine_name d1 f in
      let f2 = (name_left d1 f).1 in
      let b = definitions_again more keeps (function_left d2 f2) in
      let a = function_again d2 b.keeps f2 in
      let p = another_part (map (function_text z) fs) (codes " end") (function_piece s text ds vs x is a.keeps a.piece) b.piece in
      record {
        piece = p;
        reads = λ k r. (
          refl,
          subst (λ (g : FunName). AreDefinitions k s (p.front k r) (function g vs x ∷ fs) o r) (arity_again (atom_number s text) is)
              (mods.kept_definition (notes.name text (decimal (value ds))) (still_kept is never) (a.reads k (b.piece.front k r) (b.reads k r).0) (b.reads k r).1),
        );
        keeps = before_atom s text a.keeps;
      }
  definitions_again (mods.dropped_definition d1 is d2 more) keeps f = definitions_again more keeps (function_left d2 (name_left d1 f).1)

-- the text of a module, with a space before it and no line feed
abbrev module_text : Module → List ℕ
module_text z =
    codes " module" ++ atom_token z z.name ++ codes " [" ++ with_commas (map (name_text z) z.exports) ++ codes " ] attributes [ ]"
    ++ one_after_another (map (function_text z) z.functions) ++ codes " end"

module_at : {n : ℕ} {s : Tables} {ms q : List Marked} {z : Module} → IsModuleAt n s ms z q → AreFine ms → Again n z s (module_text z) (λ k ms r. IsModuleAt k s ms z r)
module_at {s = s} (mods.plain_module {o = o} {exports = exports} {functions = functions} name d1 d2 d3) f =
    let z = mods.module_of (atom_number s name) exports functions o in
    let c = definitions_again {z = z} d3 (record { atoms = λ k x h. h; variables = λ k x h. h }) (attributes_left d2 (exports_left d1 f.1.1.1).1.1) in
    let a = (exports_again {z = z} d1 c.keeps f.1.1.1).alone in
    let names = with_commas (map (name_text z) exports) in
    let head = opened (t.Symbol w.Module) f.0 ▷ atom_piece s name a.keeps f.1.0.1 ▷ one_symbol w.OpenList in
    let listed = deeper a.piece ▷ (one_symbol w.Attributes ▷ one_symbol w.OpenList ▷ one_symbol w.CloseList) in
    record {
      piece = before (one_after_another (map (function_text z) functions)) (codes " end")
          (before names (codes " ] attributes [ ]") head (same_text (append_assoc names (codes " ]") (codes " attributes [ ]")) listed)) (deeper c.piece);
      reads = λ k r. mods.plain_module name (a.reads (k + 1) (symbol w.Attributes ∷ symbol w.OpenList ∷ symbol w.CloseList ∷ c.piece.front (k + 1) r)) notes.none (c.reads (k + 1) r).1;
      keeps = before_atom s name a.keeps;
    }
module_at (mods.noted d end) f = again_no_deeper (module_at d f.1)

-- what the grammar reads as a module's tree, it reads again from the tokens of the canonical text
pub module_again : (ms : List Marked) (z : Module) → IsModule ms z → AreFine ms
    → (ns : List Marked) × (32 ∷ canonical_text z ≡ spaced ns ++ 10 ∷ []) × AreFine ns × IsModule ns z
module_again ms z d f =
    let a = module_at d f in
    let ns = a.piece.front 0 [] in
    let before_end : List ℕ = codes " module" ++ atom_token z z.name ++ codes " [" ++ with_commas (map (name_text z) z.exports) ++ codes " ] attributes [ ]" ++ one_after_another (map (function_text z) z.functions) in
    let spells : spaced ns ≡ module_text z = a.piece.spells 0 [] ∙ append-nil (module_text z) in
    (ns, sym (ap (λ (x : List ℕ). x ++ 10 ∷ []) spells ∙ append_assoc before_end (codes " end") (10 ∷ [])), a.piece.fine 0 (omega arith) [] tt, a.reads 0 [])
