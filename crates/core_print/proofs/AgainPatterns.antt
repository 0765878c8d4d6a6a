-- Patterns are read again from their canonical tokens.
use Rattle.std.proofs.Common.{◌≡◌, ℕ, ◌+◌, ◌≤◌, ℤ, true, false, List, [], ◌∷◌, ◌++◌, map, refl, sym, ap, subst, ◌∙◌}
use Rattle.std.proofs.lemmas.List.{append_assoc, append-nil}
use Rattle.hy_core.specs.Marks.{Marked, at, symbol, value}
use Rattle.hy_core.specs.Numbering.{atom_number}
use Rattle.hy_core.specs.Patterns as pats
use Rattle.hy_core.specs.Patterns.{joined_at, joined_pattern, IsPattern, ArePatterns, AreMorePatterns, IsPatternList, IsPatternEnd, IsPatternTail}
use Rattle.hy_core.specs.Canonical.{Part, part, token, after_commas, with_commas, texts_of, list_end, pattern_part, pattern_text}
use Rattle.hy_core.specs.declared.token.Symbol.{Symbol}
use Rattle.hy_core.specs.declared.token.Symbol.TheVariants as w
use Rattle.hy_core.specs.declared.token.Token.TheVariants as t
use Rattle.hy_core.specs.declared.tables.Tables.{Tables}
use Rattle.hy_core.specs.declared.tree.Module.{Module}
use Rattle.hy_core.specs.declared.tree.Pattern.{Pattern}
use Rattle.hy_core.specs.declared.tree.Pattern.TheVariants as p
use Rattle.hy_core.specs.declared.tree.Pattern.TheViews as views
use Rattle.core_print.proofs.Spelling.{symbol_text, IsFine, AreFine}
use Rattle.core_print.proofs.Numbers.{IsSpelled, integer_spelled, character_spelled}
use Rattle.core_print.proofs.Tables.{Keeps, before_atom, before_variable, variable_kept}
use Rattle.core_print.proofs.ListEnd.{list_end-nil, list_end-other}
use Rattle.core_print.proofs.CanonicalForms as forms
use Rattle.core_print.proofs.AgainPieces.{Piece, one_symbol, opened, ◌▷◌, deeper, same_text, first_part, next_part}
use Rattle.core_print.proofs.AgainLeft.{pattern_left, aliased_left}
use Rattle.core_print.proofs.AgainStarts.{is_apart, IsApart, IsItem, apart_item, no_equals, no_list}
use Rattle.core_print.proofs.AgainParts.{Again, again_no_deeper}
use Rattle.core_print.proofs.AgainNames.{atom_spelled}
use Rattle.core_print.proofs.AgainVariables.{aliased_again}

-- a pattern is read before what goes on no alias
abbrev pub PatternReads : Tables → Pattern → Tables → ℕ → List Marked → List Marked → Type 0
PatternReads s x u k ms r = IsApart ms × (IsApart r → IsPattern k s ms x u r)

-- a pattern that is no list notation
pub record IsNoList (z : Module) (x : Pattern) : Type 0 where
  pub joins : (xs : List Pattern) → joined_pattern xs x ≡ p.List xs x
  pub not_nil : (pattern_part z x).is_nil ≡ false

-- the heads and the end of a list notation, behind its first head, are read as what the tree has of them
pub record EndAgain (n : ℕ) (z : Module) (s : Tables) (xs : List Pattern) (tail : Pattern) (u : Tables) : Type 0 where
  pub heads : List Pattern
  pub end : Pattern
  pub joins : (ys : List Pattern) → joined_pattern (ys ++ xs) tail ≡ p.List (ys ++ heads) end
  pub simple : (ys : List Pattern) → joined_pattern ys end ≡ p.List ys end
  pub again : Again n z s (after_commas (texts_of (map (pattern_part z) heads)) ++ list_end (pattern_part z end)) (λ k ms r. IsApart ms × IsPatternEnd k s ms heads end u r)

-- a list notation is read again, by itself and as the tail of another
pub record ListAgain (n : ℕ) (z : Module) (s : Tables) (x : Pattern) (u : Tables) : Type 0 where
  pub again : Again n z s (pattern_text z x) (PatternReads s x u)
  pub end : EndAgain n z s [] x u

pub data PatternAgain (n : ℕ) (z : Module) (s : Tables) (x : Pattern) (u : Tables) : Type 0 where
  item : IsNoList z x → (a : Again n z s (pattern_text z x) (PatternReads s x u)) → ((k : ℕ) (r : List Marked) → IsItem (a.piece.front k r)) → PatternAgain n z s x u
  list : ListAgain n z s x u → PatternAgain n z s x u

-- a tail that begins no list notation
other_tail : {k : ℕ} {s u : Tables} {x : Pattern} {ms r : List Marked} → IsItem ms → IsPattern (k + 1) s ms x u r → IsPatternTail k s ms x u r
other_tail {ms = []} is d = absurd is
other_tail {ms = m ∷ ms} is d = pats.other_tail (no_list m is) d

module _ {z : Module} where
  end_no_deeper : {n : ℕ} {s u : Tables} {xs : List Pattern} {tail : Pattern} → EndAgain (n + 1) z s xs tail u → EndAgain n z s xs tail u
  end_no_deeper behind = record { heads = behind.heads; end = behind.end; joins = behind.joins; simple = behind.simple; again = again_no_deeper behind.again }

  module _ {n : ℕ} {s u : Tables} {x : Pattern} where
    pub as_pattern : PatternAgain n z s x u → Again n z s (pattern_text z x) (PatternReads s x u)
    as_pattern (item is a starts) = a
    as_pattern (list l) = l.again

    as_tail : PatternAgain (n + 1) z s x u → EndAgain n z s [] x u
    as_tail (list l) = end_no_deeper l.end
    as_tail (item is a starts) = record {
      heads = [];
      end = x;
      joins = λ ys. is.joins (ys ++ []);
      simple = is.joins;
      again = record {
        piece = same_text (sym (list_end-other (pattern_part z x) is.not_nil)) (one_symbol w.Bar ▷ deeper a.piece ▷ one_symbol w.CloseList);
        reads = λ k r. (refl, pats.tail (other_tail (starts (k + 1) (symbol w.CloseList ∷ r)) ((a.reads (k + 1) (symbol w.CloseList ∷ r)).1 refl)));
        keeps = a.keeps;
      };
    }

    pattern_no_deeper : PatternAgain (n + 1) z s x u → PatternAgain n z s x u
    pattern_no_deeper (item is a starts) = item is (again_no_deeper a) starts
    pattern_no_deeper (list l) = list (record { again = again_no_deeper l.again; end = end_no_deeper l.end })

    -- a form of patterns that is no list notation
    form : {text : List ℕ} → pattern_part z x ≡ part text → ((xs : List Pattern) → joined_pattern xs x ≡ p.List xs x) → (a : Piece n text)
        → ((k : ℕ) (r : List Marked) → IsItem (a.front k r)) → ((k : ℕ) (r : List Marked) → IsApart r → IsPattern k s (a.front k r) x u r) → Keeps s z → PatternAgain n z s x u
    form is joins a starts reads keeps = item
        (record { joins = joins; not_nil = ap (λ (y : Part). y.is_nil) is })
        (record { piece = same_text (sym (ap (λ (y : Part). y.text) is)) a; reads = λ k r. (apart_item (a.front k r) (starts k r), reads k r); keeps = keeps })
        starts

  integer_form : {n : ℕ} {s : Tables} (x : ℤ) → n ≤ 400 → IsSpelled x → Keeps s z → PatternAgain n z s (p.Int x) s
  integer_form {s = s} x shallow is keeps =
      form (forms.pattern-Int z x) (λ xs. ap (joined_at xs (p.Int x)) (views.outs-Int x)) (same_text (ap token is.spells) (opened (t.Integer is.sign is.digits) ((shallow, is.in_range), is.are_digits)))
      (λ k r. refl) (λ k r after. subst (λ (y : ℤ). IsPattern k s (at k (t.Integer is.sign is.digits) ∷ r) (p.Int y) s r) is.same (pats.integer is.sign is.digits)) keeps

  nil_form : {n : ℕ} {s : Tables} → n ≤ 400 → Keeps s z → ListAgain n z s p.Nil s
  nil_form shallow keeps =
      let joins : (xs : List Pattern) → joined_pattern xs p.Nil ≡ p.List xs p.Nil = λ xs. ap (joined_at xs p.Nil) views.outs-Nil in
      record {
        again = record {
          piece = same_text (sym (ap (λ (y : Part). y.text) (forms.pattern-Nil z))) (opened (t.Symbol w.OpenList) ((shallow, tt), tt) ▷ one_symbol w.CloseList);
          reads = λ k r. (refl, λ after. pats.list pats.nil);
          keeps = keeps;
        };
        end = record {
          heads = [];
          end = p.Nil;
          joins = λ ys. joins (ys ++ []);
          simple = joins;
          again = record {
            piece = same_text (sym (list_end-nil (pattern_part z p.Nil) (ap (λ (y : Part). y.is_nil) (forms.pattern-Nil z)))) (one_symbol w.CloseList);
            reads = λ k r. (refl, pats.closed);
            keeps = keeps;
          };
        };
      }

  -- one more head
  abbrev next_head : {n : ℕ} {s u o : Tables} {x tail : Pattern} {xs : List Pattern} → Again (n + 1) z s (pattern_text z x) (PatternReads s x u) → EndAgain n z u xs tail o → EndAgain n z s (x ∷ xs) tail o
  next_head {x = x} {tail = tail} {xs = xs} a behind = record {
    heads = x ∷ behind.heads;
    end = behind.end;
    joins = λ ys. ap (λ (k : List Pattern). joined_pattern k tail) (sym (append_assoc ys (x ∷ []) xs)) ∙ behind.joins (ys ++ x ∷ []) ∙ ap (λ (k : List Pattern). p.List k behind.end) (append_assoc ys (x ∷ []) behind.heads);
    simple = behind.simple;
    again = record {
      piece = next_part (texts_of (map (pattern_part z) behind.heads)) (list_end (pattern_part z behind.end)) (deeper a.piece) behind.again.piece;
      reads = λ k r. (refl, pats.next_head ((a.reads (k + 1) (behind.again.piece.front k r)).1 (behind.again.reads k r).0) (behind.again.reads k r).1);
      keeps = a.keeps;
    };
  }

  -- a list notation of this head and what is behind it
  heads_form : {n : ℕ} {s u o : Tables} {x tail : Pattern} {xs : List Pattern} → n ≤ 400 → Again (n + 1) z s (pattern_text z x) (PatternReads s x u) → EndAgain n z u xs tail o
      → ListAgain n z s (joined_pattern (x ∷ xs) tail) o
  heads_form {s = s} {o = o} {x = x} {tail = tail} {xs = xs} shallow a behind =
      let more = next_head a behind in
      let texts = texts_of (map (pattern_part z) behind.heads) in
      let close = list_end (pattern_part z behind.end) in
      let is : joined_pattern (x ∷ xs) tail ≡ p.List (x ∷ behind.heads) behind.end = behind.joins (x ∷ []) in
      record {
        again = record {
          piece = same_text (sym (ap (pattern_text z) is ∙ ap (λ (y : Part). y.text) (forms.pattern-List z (x ∷ behind.heads) behind.end))) (opened (t.Symbol w.OpenList) ((shallow, tt), tt) ▷ first_part texts close (deeper a.piece) behind.again.piece);
          reads = λ k r. (
            refl,
            λ after. subst (λ (y : Pattern). IsPattern k s (at k (t.Symbol w.OpenList) ∷ a.piece.front (k + 1) (behind.again.piece.front k r)) y o r) (behind.simple (x ∷ behind.heads) ∙ sym is)
                (pats.list (pats.heads ((a.reads (k + 1) (behind.again.piece.front k r)).1 (behind.again.reads k r).0) (behind.again.reads k r).1)),
          );
          keeps = a.keeps;
        };
        end = record {
          heads = more.heads;
          end = more.end;
          joins = λ ys. ap (joined_pattern (ys ++ [])) is ∙ ap (joined_at (ys ++ []) (p.List (x ∷ behind.heads) behind.end)) (views.outs-List (x ∷ behind.heads) behind.end) ∙ ap (λ (k : List Pattern). p.List (k ++ x ∷ behind.heads) behind.end) (append-nil ys);
          simple = more.simple;
          again = more.again;
        };
      }

  string_form : {n : ℕ} {s : Tables} (text : List ℕ) → IsFine (at n (t.Str text)) → Keeps s z → PatternAgain n z s (pats.string_pattern text) s
  string_form [] is keeps = list (nil_form is.0.0 keeps)
  string_form (b ∷ bs) is keeps =
      form (forms.pattern-Str z (b ∷ bs)) (λ xs. ap (joined_at xs (p.Str (b ∷ bs))) (views.outs-Str (b ∷ bs))) (opened (t.Str (b ∷ bs)) is) (λ k r. refl) (λ k r after. pats.string (b ∷ bs)) keeps

  -- each part is read again between the same tables
  mutual
    pub pattern_again : {n : ℕ} {s u : Tables} {ms q : List Marked} {x : Pattern} → IsPattern n s ms x u q → Keeps u z → AreFine ms → PatternAgain n z s x u
    pattern_again (pats.integer sign digits) keeps f = integer_form _ f.0.0.0 (integer_spelled sign (value digits) f.0.0.1) keeps
    pattern_again (pats.character code) keeps f = integer_form _ f.0.0.0 (character_spelled code f.0.1) keeps
    pattern_again {s = s} (pats.atom text) keeps f =
        form (forms.pattern-Atom z (atom_number s text)) (λ xs. ap (joined_at xs (p.Atom (atom_number s text))) (views.outs-Atom (atom_number s text)))
        (same_text (atom_spelled s text keeps) (opened (t.Atom text) f.0)) (λ k r. refl) (λ k r after. pats.atom text) (before_atom s text keeps)
    pattern_again (pats.string text) keeps f = string_form text f.0 keeps
    pattern_again {s = s} (pats.variable name before) keeps f =
        form (forms.pattern-Var z _) (λ xs. ap (joined_at xs (p.Var _)) (views.outs-Var _))
        (same_text (ap token (sym (variable_kept s name keeps))) (opened (t.Variable name) f.0)) (λ k r. refl) (λ k r after. pats.variable name (no_equals r after)) (before_variable s name keeps)
    pattern_again (pats.alias {v = v} {x = x} d1 d2) keeps f =
        let b = as_pattern (pattern_again d2 keeps (aliased_left d1 f).1) in
        let a = aliased_again d1 b.keeps f in
        form (forms.pattern-Alias z v x) (λ xs. ap (joined_at xs (p.Alias v x)) (views.outs-Alias v x))
        (a.piece ▷ one_symbol w.Equals ▷ deeper b.piece)
        (λ k r. (a.reads k (symbol w.Equals ∷ b.piece.front (k + 1) r)).0)
        (λ k r after. pats.alias (a.reads k (symbol w.Equals ∷ b.piece.front (k + 1) r)).1 ((b.reads (k + 1) r).1 after)) a.keeps
    pattern_again (pats.tuple {xs = xs} d) keeps f =
        let a = patterns_again refl d keeps f.1 in
        form (forms.pattern-Tuple z xs) (λ ys. ap (joined_at ys (p.Tuple xs)) (views.outs-Tuple xs))
        (opened (t.Symbol w.OpenTuple) f.0 ▷ deeper a.piece) (λ k r. refl) (λ k r after. pats.tuple (a.reads (k + 1) r)) a.keeps
    pattern_again (pats.list d) keeps f = list (pattern_list_again d keeps f.1 f.0.0.0)
    pattern_again (pats.noted d end before) keeps f = pattern_no_deeper (pattern_again d keeps f.1)

    pub patterns_again : {n : ℕ} {close : Symbol} {s u : Tables} {ms q : List Marked} {xs : List Pattern} → is_apart (t.Symbol close) ≡ true → ArePatterns n close s ms xs u q → Keeps u z → AreFine ms
        → Again n z s (with_commas (texts_of (map (pattern_part z) xs)) ++ token (symbol_text close)) (λ k ms r. ArePatterns k close s ms xs u r)
    patterns_again {close = close} is pats.no_patterns keeps f = record { piece = one_symbol close; reads = λ k r. pats.no_patterns; keeps = keeps }
    patterns_again {close = close} is (pats.some_patterns {xs = xs} d more) keeps f =
        let b = more_patterns_again is more keeps (pattern_left d f) in
        let a = as_pattern (pattern_again d b.keeps f) in
        record {
          piece = first_part (texts_of (map (pattern_part z) xs)) (token (symbol_text close)) a.piece b.piece;
          reads = λ k r. pats.some_patterns ((a.reads k (b.piece.front k r)).1 (b.reads k r).0) (b.reads k r).1;
          keeps = a.keeps;
        }

    more_patterns_again : {n : ℕ} {close : Symbol} {s u : Tables} {ms q : List Marked} {xs : List Pattern} → is_apart (t.Symbol close) ≡ true → AreMorePatterns n close s ms xs u q → Keeps u z → AreFine ms
        → Again n z s (after_commas (texts_of (map (pattern_part z) xs)) ++ token (symbol_text close)) (λ k ms r. IsApart ms × AreMorePatterns k close s ms xs u r)
    more_patterns_again {close = close} is pats.no_more keeps f = record { piece = one_symbol close; reads = λ k r. (is, pats.no_more); keeps = keeps }
    more_patterns_again {close = close} is (pats.one_more {xs = xs} d more) keeps f =
        let b = more_patterns_again is more keeps (pattern_left d f.1) in
        let a = as_pattern (pattern_again d b.keeps f.1) in
        record {
          piece = next_part (texts_of (map (pattern_part z) xs)) (token (symbol_text close)) a.piece b.piece;
          reads = λ k r. (refl, pats.one_more ((a.reads k (b.piece.front k r)).1 (b.reads k r).0) (b.reads k r).1);
          keeps = a.keeps;
        }

    pattern_list_again : {n : ℕ} {s u : Tables} {ms q : List Marked} {x : Pattern} → IsPatternList n s ms x u q → Keeps u z → AreFine ms → n ≤ 400 → ListAgain n z s x u
    pattern_list_again pats.nil keeps f shallow = nil_form shallow keeps
    pattern_list_again (pats.heads d more) keeps f shallow =
        let behind = pattern_end_again more keeps (pattern_left d f) shallow in
        heads_form shallow (as_pattern (pattern_again d behind.again.keeps f)) behind

    pattern_end_again : {n : ℕ} {s u : Tables} {ms q : List Marked} {xs : List Pattern} {tail : Pattern} → IsPatternEnd n s ms xs tail u q → Keeps u z → AreFine ms → n ≤ 400 → EndAgain n z s xs tail u
    pattern_end_again pats.closed keeps f shallow = (nil_form shallow keeps).end
    pattern_end_again (pats.next_head d more) keeps f shallow =
        let behind = pattern_end_again more keeps (pattern_left d f.1) shallow in
        next_head (as_pattern (pattern_again d behind.again.keeps f.1)) behind
    pattern_end_again (pats.tail d) keeps f shallow = pattern_tail_again d keeps f.1 shallow

    pattern_tail_again : {n : ℕ} {s u : Tables} {ms q : List Marked} {x : Pattern} → IsPatternTail n s ms x u q → Keeps u z → AreFine ms → n ≤ 400 → EndAgain n z s [] x u
    pattern_tail_again (pats.list_tail d) keeps f shallow = (pattern_list_again d keeps f.1 shallow).end
    pattern_tail_again (pats.other_tail never d) keeps f shallow = as_tail (pattern_again d keeps f)
