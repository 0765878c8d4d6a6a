-- Words and the headers of cells. A word is its payload times 16 and a tag; 0 is a word that was
-- not written. The tags, the payloads and the layout of headers are the project's own.
use Rattle.std.specs.Prelude.{◌≡◌, ◌⊎◌, ℕ, ℤ, pos, negsuc, ◌+◌, ◌-◌, ◌*◌, ◌/◌, ◌%◌, ◌^◌, ◌<◌, ◌≤◌, if◌then◌else◌, ◌==◌, nat_lt}
use Rattle.hy_words.specs.declared.kind.Entry.{Entry}
use Rattle.hy_words.specs.declared.kind.Entry.TheVariants.{Send, Spawn, Print}

abbrev pub word_of : (tag payload : ℕ) → ℕ
word_of tag payload = payload * 16 + tag

abbrev pub tag_of : ℕ → ℕ
tag_of w = w % 16

abbrev pub payload_of : ℕ → ℕ
payload_of w = w / 16

-- ---- the tags

abbrev pub number_tag : ℕ
number_tag = 1

abbrev pub atom_tag : ℕ
atom_tag = 2

abbrev pub pid_tag : ℕ
pid_tag = 3

abbrev pub nil_tag : ℕ
nil_tag = 4

-- of the place of a cell in the heap of a process
abbrev pub private_tag : ℕ
private_tag = 5

-- of the place of a cell in the area
abbrev pub area_tag : ℕ
area_tag = 6

abbrev pub tuple_tag : ℕ
tuple_tag = 7

abbrev pub cons_tag : ℕ
cons_tag = 8

abbrev pub tag_of_entry : Entry → ℕ
tag_of_entry Send = 9
tag_of_entry Spawn = 10
tag_of_entry Print = 11

-- ---- the words

-- a number modulo 2^60; negsuc k is -1 - k
abbrev pub payload_of_number : ℤ → ℕ
payload_of_number (pos k) = k
payload_of_number (negsuc k) = 1152921504606846975 - k

-- the number in range with this payload
abbrev pub number_of : ℕ → ℤ
number_of p = if nat_lt p (2 ^ 59) then pos p else negsuc (1152921504606846975 - p)

abbrev pub number_word : ℤ → ℕ
number_word n = word_of number_tag (payload_of_number n)

abbrev pub atom_word_of : ℕ → ℕ
atom_word_of a = word_of atom_tag a

abbrev pub pid_word_of : ℕ → ℕ
pid_word_of p = word_of pid_tag p

abbrev pub nil_word_of : ℕ
nil_word_of = word_of nil_tag 0

abbrev pub private_word_of : ℕ → ℕ
private_word_of place = word_of private_tag place

abbrev pub area_word_of : ℕ → ℕ
area_word_of place = word_of area_tag place

abbrev pub tuple_header_of : (size site : ℕ) → ℕ
tuple_header_of size site = word_of tuple_tag (size + site * 2 ^ 30)

abbrev pub cons_header_of : ℕ → ℕ
cons_header_of site = word_of cons_tag (site * 2 ^ 30)

abbrev pub entry_header_of : Entry → ℕ → ℕ
entry_header_of kind following = word_of (tag_of_entry kind) following

-- ---- headers

-- the header of a tuple or a cons, by its tag
abbrev pub IsTermHeader : ℕ → Type 0
IsTermHeader w = (tuple_tag ≤ tag_of w) × (tag_of w ≤ cons_tag)

-- the header of an entry of the log, by its tag
abbrev pub IsEntryHeader : ℕ → Type 0
IsEntryHeader w = (tag_of_entry Send ≤ tag_of w) × (tag_of w ≤ tag_of_entry Print)

-- the size of a tuple, by its header
abbrev pub size_of : ℕ → ℕ
size_of header = payload_of header % 2 ^ 30

-- the site that built a tuple or a cons, by its header
abbrev pub site_of : ℕ → ℕ
site_of header = payload_of header / 2 ^ 30

-- the number of words of a cell that follow its header
abbrev pub following : ℕ → ℕ
following header =
    if tag_of header == tuple_tag then size_of header
    else if tag_of header == cons_tag then 2 else payload_of header

-- the header of a tuple, a cons, or an entry of the log
abbrev pub IsHeader : ℕ → Type 0
IsHeader w =
    (tuple_tag ≤ tag_of w) × (tag_of w ≤ tag_of_entry Print)
    × (IsTermHeader w → size_of w < 2 ^ 28) × (IsTermHeader w → site_of w < 2 ^ 28)
    × (tag_of w ≡ cons_tag → size_of w ≡ 0) × (IsEntryHeader w → payload_of w < 2 ^ 28)

-- ---- values

-- a number, an atom, a pid or nil
abbrev pub IsScalar : ℕ → Type 0
IsScalar w =
    (number_tag ≤ tag_of w) × (tag_of w ≤ nil_tag) × (w < 2 ^ 64)
    × (tag_of w ≡ atom_tag → payload_of w < 2 ^ 32) × (tag_of w ≡ pid_tag → payload_of w < 2 ^ 59)
    × (tag_of w ≡ nil_tag → payload_of w ≡ 0)

-- a scalar, or the place of a cell of the area
abbrev pub IsValue : ℕ → Type 0
IsValue w = IsScalar w ⊎ (tag_of w ≡ area_tag)

abbrev pub IsPidWord : ℕ → Type 0
IsPidWord w = tag_of w ≡ pid_tag

-- a number that counts, and so is at least 0
abbrev pub IsCountWord : ℕ → Type 0
IsCountWord w = (tag_of w ≡ number_tag) × (payload_of w < 2 ^ 59)
