-- What the texts of the files are, by what was read of them.
use Rattle.std.proofs.Common.{◌≡◌, ℕ, suc, zero, ◌+◌, ◌<◌, ◌≤◌, ◌^◌, List, [], ◌∷◌, ◌++◌, take, length, slice_get, Option, None, Some, inl, inr, refl, sym, ap, subst, ◌∙◌, arith}
use Rattle.std.specs.Prelude.{IfSome}
use Rattle.std.specs.List.{AllByRecursion}
use Rattle.std.proofs.lemmas.List.{take_all, length-take}
use Rattle.hy_core.specs.Reading.{IsModuleText}
use Rattle.hy_core.specs.Refusals.{IsRefusedText}
use Rattle.hy_core.specs.declared.refusal.RefusalKind.{RefusalKind}
use Rattle.hy_core.specs.declared.refusal.RefusalKind.TheVariants as k
use Rattle.hy_core.specs.declared.tree.Module.{Module}
use Rattle.core_lint.specs.Linted.{IsOfText}
use Rattle.core_parse.proofs.WholeText.{one_tree}
use Rattle.core_parse.proofs.OneVerdict.{no_module_is_refused, one_refusal}
use Rattle.outside.specs.Outside.{Rises, first_bytes, read_limit}
use Rattle.hybrid_run.specs.declared.fault.TopFault.{TopFault}
use Rattle.hybrid_run.specs.declared.fault.TopFault.TheVariants as f
use Rattle.hybrid_run.specs.Loading.{Told, AreTold, IsRead, AreRead, IsReadWhereTold, AreReadWhereTold, PassBefore, IsRefusedAs, IsRefusedWhereTold, IsFirstRefused, RefusedText, Sourced, sourced, StopsAt, StopsLoading, StopsParsing}

-- ---- the first bytes of a text, and the whole

-- a text that isn't too long is read whole
first_whole : (whole : List ℕ) → length whole ≤ 2 ^ 20 → first_bytes whole ≡ whole
first_whole whole h = take_all read_limit whole (omega arith)

few : (whole : List ℕ) → length (first_bytes whole) ≤ 2 ^ 20 → length whole ≤ 2 ^ 20
few whole h = omega (arith, length-take read_limit whole)

-- what says that a text isn't too long holds of the whole where it holds of its first bytes
whole_from : (P : List ℕ → Type 0) (whole : List ℕ) → length (first_bytes whole) ≤ 2 ^ 20 → P (first_bytes whole) → P whole
whole_from P whole short h = subst P (first_whole whole (few whole short)) h

refused_whole : (whole : List ℕ) (kind : RefusalKind) (place : ℕ) → IsRefusedText (first_bytes whole) kind place → IsRefusedText whole kind place
refused_whole whole k.TooLong place h = (omega (arith, length-take read_limit whole, h.0), h.1)
refused_whole whole k.BadToken place h = whole_from (λ (text : List ℕ). IsRefusedText text k.BadToken place) whole h.0 h
refused_whole whole k.Unexpected place h = whole_from (λ (text : List ℕ). IsRefusedText text k.Unexpected place) whole h.0 h
refused_whole whole k.Ended place h = whole_from (λ (text : List ℕ). IsRefusedText text k.Ended place) whole h.0 h
refused_whole whole k.NumberRange place h = whole_from (λ (text : List ℕ). IsRefusedText text k.NumberRange place) whole h.0 h
refused_whole whole k.TooDeep place h = whole_from (λ (text : List ℕ). IsRefusedText text k.TooDeep place) whole h.0 h

-- a text that was read to its end is the one that is told
pub read_whole : (told : Told) (name bytes : List ℕ) (z : Module) → IfSome (told name) (λ whole. bytes ≡ first_bytes whole) → IsModuleText bytes z → IsReadWhereTold told name z
read_whole told name bytes z is reads = (bytes, by (told name) is, reads)
  where
    by : (o : Option (List ℕ)) → IfSome o (λ whole. bytes ≡ first_bytes whole) → (whole : List ℕ) → o ≡ Some whole → whole ≡ bytes
    by None is whole tells = absurd cc
    by (Some told) is whole tells =
        let same : told ≡ whole = cc in
        let short = subst (λ (text : List ℕ). length text ≤ 2 ^ 20) is reads.0 in
        sym same ∙ sym (first_whole told (few told short)) ∙ sym is

-- a refusal of what was read is one of what is told
pub refused_as : (told : Told) (name bytes : List ℕ) (kind : RefusalKind) (at : ℕ) → IfSome (told name) (λ whole. bytes ≡ first_bytes whole) → IsRefusedText bytes kind at → IsRefusedAs told name kind at
refused_as told name bytes kind at is refused = by (told name) is refl
  where
    by : (o : Option (List ℕ)) → IfSome o (λ whole. bytes ≡ first_bytes whole) → told name ≡ o → IsRefusedAs told name kind at
    by None is none = record { text = bytes; is_text = λ whole tells. absurd (let bad = sym none ∙ tells in cc); refused = refused }
    by (Some whole) is some = record {
      text = whole;
      is_text = λ other tells. let same = sym some ∙ tells in cc;
      refused = refused_whole whole kind at (subst (λ (text : List ℕ). IsRefusedText text kind at) is refused);
    }

-- the tree of a text that is told
tree_told : (told : Told) (file text : List ℕ) (z : Module) → IsReadWhereTold told file z → told file ≡ Some text → IsModuleText text z
tree_told told file text z (own, is_own, reads) tells = subst (λ (k : List ℕ). IsModuleText k z) (sym (is_own text tells)) reads

-- ---- one file after the other

-- one file more
read_more : (told : Told) (files : List (List ℕ)) (zs : List Module) (file : List ℕ) (z : Module) → AreReadWhereTold told files zs → IsReadWhereTold told file z → AreReadWhereTold told (files ++ file ∷ []) (zs ++ z ∷ [])
read_more told [] [] file z h read = (read, tt)
read_more told [] (y ∷ ys) file z h read = absurd h
read_more told (other ∷ others) [] file z h read = absurd h
read_more told (other ∷ others) (y ∷ ys) file z h read = (h.0, read_more told others ys file z h.1 read)

-- files that were read are modules
pub pass : (told : Told) (files : List (List ℕ)) (zs : List Module) → AreReadWhereTold told files zs → AllByRecursion (λ file. (z : Module) × IsReadWhereTold told file z) files
pass told [] zs h = tt
pass told (file ∷ files) [] h = absurd h
pass told (file ∷ files) (z ∷ zs) h = ((z, h.0), pass told files zs h.1)

-- there is one tree for each file
pub same_count : (told : Told) (files : List (List ℕ)) (zs : List Module) → AreReadWhereTold told files zs → length zs ≡ length files
same_count told [] [] h = refl
same_count told [] (z ∷ zs) h = absurd h
same_count told (file ∷ files) [] h = absurd h
same_count told (file ∷ files) (z ∷ zs) h = ap suc (same_count told files zs h.1)

pub all_read : (told : Told) (files : List (List ℕ)) (zs : List Module) → AreTold told files → AreReadWhereTold told files zs → AreRead told files zs
all_read told [] [] tells h = tt
all_read told [] (z ∷ zs) tells h = absurd h
all_read told (file ∷ files) [] tells h = absurd h
all_read told (file ∷ files) (z ∷ zs) tells h = ((tells.0.0, tells.0.1, tree_told told file tells.0.0 z h.0 tells.0.1), all_read told files zs tells.1 h.1)

-- the trees of texts that are told are those that were read
pub same_trees : (told : Told) (files : List (List ℕ)) (ys zs : List Module) → AreRead told files ys → AreReadWhereTold told files zs → zs ≡ ys
same_trees told [] [] [] read h = refl
same_trees told [] [] (z ∷ zs) read h = absurd h
same_trees told [] (y ∷ ys) zs read h = absurd read
same_trees told (file ∷ files) [] zs read h = absurd read
same_trees told (file ∷ files) (y ∷ ys) [] read h = absurd h
same_trees told (file ∷ files) (y ∷ ys) (z ∷ zs) ((text, tells, is), read) h =
    let first : z ≡ y = one_tree text z y (tree_told told file text z h.0 tells) is in
    let rest : zs ≡ ys = same_trees told files ys zs read h.1 in
    ap (λ (x : Module). x ∷ zs) first ∙ ap (λ (xs : List Module). y ∷ xs) rest

-- ---- refusals

-- a text that is a module, where it is told, is not refused
module_or_refused : (told : Told) (file text : List ℕ) (z : Module) (kind : RefusalKind) (at : ℕ) → told file ≡ Some text → IsReadWhereTold told file z → IsRefusedText text kind at → ⊥
module_or_refused told file text z kind at tells read refused = no_module_is_refused text z kind at (tree_told told file text z read tells) refused

-- a file at a place before another is among those before it
before_place : (P : List ℕ → Type 0) (files : List (List ℕ)) (place other : ℕ) (file : List ℕ) → AllByRecursion P (take other files) → place < other → slice_get files place ≡ Some file → P file
before_place P [] place other file h low is = absurd cc
before_place P (f ∷ fs) place zero file h low is = absurd (omega arith)
before_place P (f ∷ fs) zero (suc n) file h low is = (let same : f ≡ file = cc in subst P same h.0)
before_place P (f ∷ fs) (suc i) (suc n) file h low is = before_place P fs i n file h.1 (omega arith) is

pub not_passed : (told : Told) (files : List (List ℕ)) (place other : ℕ) (kind : RefusalKind) (at : ℕ) → IsFirstRefused told files place kind at → PassBefore told files other → place < other → ⊥
not_passed told files place other kind at first passed low =
    let read = before_place (λ (file : List ℕ). (z : Module) × IsReadWhereTold told file z) files place other first.file passed low first.stands in
    module_or_refused told first.file first.text read.0 kind at first.tells read.1 first.refused

pub not_before : (told : Told) (files : List (List ℕ)) (place other : ℕ) (kind found : RefusalKind) (at there : ℕ) → IsFirstRefused told files place kind at → IsRefusedWhereTold told files other found there → (file : List ℕ) → slice_get files other ≡ Some file → other < place → ⊥
not_before told files place other kind found at there first refused file stands low =
    let read = before_place (λ (f : List ℕ). (z : Module) × IsRead told f z) files other place file first.before low stands in
    no_module_is_refused read.1.0 read.0 found there read.1.2 (refused file read.1.0 stands read.1.1)

pub same_refusal : (told : Told) (files : List (List ℕ)) (place : ℕ) (kind found : RefusalKind) (at there : ℕ) → IsFirstRefused told files place kind at → IsRefusedWhereTold told files place found there → (found ≡ kind) × (there ≡ at)
same_refusal told files place kind found at there first refused = one_refusal first.text found kind there at (refused first.file first.text first.stands first.tells) first.refused

-- what is read is of a text
pub each_of_text : (told : Told) (files : List (List ℕ)) (zs : List Module) → AreReadWhereTold told files zs → AllByRecursion IsOfText zs
each_of_text told [] [] read = tt
each_of_text told [] (z ∷ zs) read = absurd read
each_of_text told (f ∷ fs) [] read = absurd read
each_of_text told (f ∷ fs) (z ∷ zs) read = ((read.0.0, read.0.2), each_of_text told fs zs read.1)

-- a file with a tree
read_at : (told : Told) (files : List (List ℕ)) (zs : List Module) (place : ℕ) (file : List ℕ) → AreRead told files zs → slice_get files place ≡ Some file → (z : Module) × IsRead told file z
read_at told [] zs place file read is = absurd cc
read_at told (f ∷ fs) [] place file read is = absurd read
read_at told (f ∷ fs) (z ∷ zs) zero file read is = (let same : f ≡ file = cc in (z, subst (λ (name : List ℕ). IsRead told name z) same read.0))
read_at told (f ∷ fs) (z ∷ zs) (suc i) file read is = read_at told fs zs i file read.1 is

-- files that have trees have none that is refused
pub none_refused : (told : Told) (files : List (List ℕ)) (zs : List Module) (place : ℕ) (kind : RefusalKind) (at : ℕ) → AreRead told files zs → IsRefusedWhereTold told files place kind at → (file : List ℕ) → slice_get files place ≡ Some file → ⊥
none_refused told files zs place kind at read refused file stands =
    let one = read_at told files zs place file read stands in
    no_module_is_refused one.1.0 one.0 kind at one.1.2 (refused file one.1.0 stands one.1.1)

-- the same where texts need not be told
passes_at : (told : Told) (files : List (List ℕ)) (zs : List Module) (place : ℕ) (file : List ℕ) → AreReadWhereTold told files zs → slice_get files place ≡ Some file → (z : Module) × IsReadWhereTold told file z
passes_at told [] zs place file read is = absurd cc
passes_at told (f ∷ fs) [] place file read is = absurd read
passes_at told (f ∷ fs) (z ∷ zs) zero file read is = (let same : f ≡ file = cc in (z, subst (λ (name : List ℕ). IsReadWhereTold told name z) same read.0))
passes_at told (f ∷ fs) (z ∷ zs) (suc i) file read is = passes_at told fs zs i file read.1 is

pub first_refused_not_read : (told : Told) (files : List (List ℕ)) (zs : List Module) (place : ℕ) (kind : RefusalKind) (at : ℕ) → IsFirstRefused told files place kind at → AreReadWhereTold told files zs → ⊥
first_refused_not_read told files zs place kind at first read =
    let one = passes_at told files zs place first.file read first.stands in
    module_or_refused told first.file first.text one.0 kind at first.tells one.1 first.refused

-- a refusal of a file is one of its text, where that is told
pub refused_where_told : (sources : Sourced) (files : List (List ℕ)) (place : ℕ) (kind : RefusalKind) (at : ℕ) → RefusedText sources files place kind at → IsRefusedWhereTold sources.told files place kind at
refused_where_told sources files place kind at r file text stands tells =
    let same : r.name ≡ file = (let both : Some r.name ≡ Some file = sym r.stands ∙ stands in cc) in
    let own : text ≡ r.refused.text = r.refused.is_text text (ap sources.told same ∙ tells) in
    subst (λ (k : List ℕ). IsRefusedText k kind at) (sym own) r.refused.refused

-- the bytes of a slice that were read
pub bytes_told : (o : Option (List ℕ)) (items bytes : List ℕ) → bytes ≡ items → IfSome o (λ whole. items ≡ first_bytes whole) → IfSome o (λ whole. bytes ≡ first_bytes whole)
bytes_told None items bytes is h = tt
bytes_told (Some whole) items bytes is h = is ∙ h

-- why a file isn't read, by what is wrong with its text
pub stops_parsing : (sources : Sourced) (place : ℕ) (name bytes : List ℕ) (fault : TopFault) → IfSome (sources.told name) (λ whole. bytes ≡ first_bytes whole) → StopsParsing bytes place fault → StopsAt sources place name fault
stops_parsing sources place name bytes f.Usage is h = h
stops_parsing sources place name bytes (f.Read file) is h = absurd h
stops_parsing sources place name bytes (f.Refused file refused) is h = (h.0, refused_as sources.told name bytes refused.kind refused.place is h.1)
stops_parsing sources place name bytes (f.Lint found) is h = h
stops_parsing sources place name bytes f.NotBuilt is h = h
stops_parsing sources place name bytes f.Write is h = h
stops_parsing sources place name bytes f.Memory is h = h

-- a text that is told before is told then
refused_before : (told now : Told) (name : List ℕ) (kind : RefusalKind) (at : ℕ) → ((other : List ℕ) → now other ≡ told other) → IsRefusedAs now name kind at → IsRefusedAs told name kind at
refused_before told now name kind at same r = record { text = r.text; is_text = λ whole tells. r.is_text whole (same name ∙ tells); refused = r.refused }

rises_before : (first old new : ℕ) → first ≤ old → Rises old new → Rises first new
rises_before first old new low (inl up) = inl (omega (arith, low, up))
rises_before first old new low (inr last) = inr last

-- why files aren't read, where those before the one at this place were
module _ (told : Told) (first old new : List ℕ → ℕ) (now : Told) (files : List (List ℕ)) (place : ℕ) (zs : List Module) (name : List ℕ)
    (stands : slice_get files place ≡ Some name) (same : (other : List ℕ) → now other ≡ told other) (counts : (other : List ℕ) → first other ≤ old other)
    (read : AreReadWhereTold told (take place files) zs) where
  before_here : (file : ℕ) → file ≡ place → PassBefore told files file
  before_here file is = subst (λ (i : ℕ). PassBefore told files i) (sym is) (pass told (take place files) zs read)

  stands_here : (file : ℕ) → file ≡ place → slice_get files file ≡ Some name
  stands_here file is = ap (λ (i : ℕ). slice_get files i) is ∙ stands

  pub stops_loading : (fault : TopFault) → StopsAt (sourced now old new) place name fault → StopsLoading (sourced told first new) files fault
  stops_loading f.Usage h = h
  stops_loading (f.Read file) h = record { name = name; stands = stands_here file h.0; failed = rises_before (first name) (old name) (new name) (counts name) h.1; before = before_here file h.0 }
  stops_loading (f.Refused file refused) h = record { name = name; stands = stands_here file h.0; refused = refused_before told now name refused.kind refused.place same h.1; before = before_here file h.0 }
  stops_loading (f.Lint found) h = h
  stops_loading f.NotBuilt h = h
  stops_loading f.Write h = h
  stops_loading f.Memory h = h

take_get : (xs : List (List ℕ)) (i : ℕ) (x : List ℕ) → slice_get xs i ≡ Some x → take (suc i) xs ≡ take i xs ++ x ∷ []
take_get [] i x is = absurd cc
take_get (y ∷ ys) zero x is = (let same : y ≡ x = cc in ap (λ (k : List ℕ). k ∷ []) same)
take_get (y ∷ ys) (suc i) x is = ap (λ (k : List (List ℕ)). y ∷ k) (take_get ys i x is)

-- the file at the next place was read, from sources that tell the same
pub read_next : (told now : Told) (files : List (List ℕ)) (place : ℕ) (zs items : List Module) (file : List ℕ) (z : Module) → slice_get files place ≡ Some file → ((other : List ℕ) → now other ≡ told other) → AreReadWhereTold told (take place files) zs → IsReadWhereTold now file z
    → items ≡ zs ++ z ∷ [] → AreReadWhereTold told (take (place + 1) files) items
read_next told now files place zs items file z stands same read one is =
    let next : suc place ≡ place + 1 = omega arith in
    subst (λ (i : ℕ). AreReadWhereTold told (take i files) items) next
    (subst (λ (xs : List Module). AreReadWhereTold told (take (suc place) files) xs) (sym is)
    (subst (λ (fs : List (List ℕ)). AreReadWhereTold told fs (zs ++ z ∷ [])) (sym (take_get files place file stands)) (read_more told (take place files) zs file z read (one.0, (λ whole tells. one.1 whole (same file ∙ tells)), one.2))))
