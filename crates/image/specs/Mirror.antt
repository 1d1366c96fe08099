-- The ASCII mirror, after document 02's Q-3: n is the number of pages, img the image. A mirror is so many characters of one text, from its
-- character `from` on, that stand from byte `start` of the image on. Assumes nothing.
use Rattle.std.specs.Prelude.{List, [], ◌∷◌, ◌++◌, Bool, cond, ◌&&◌, ◌||◌, ℕ, ◌+◌, ◌-◌, ◌*◌, ◌/◌, ◌%◌, eqb, leb, ltb, get_or, Option, Some, None, option_and_then}
use Rattle.basics.specs.Hex.{hex_of}
use Rattle.locks.specs.Locks.{lock_page}
use Rattle.image.specs.Layout.{byte, page_at, first_settings, tail_page}
use Rattle.image.specs.Settings.{count_readable}
use Rattle.image.specs.Shown.{shown}
use Rattle.image.specs.Uid.{uid}
use Rattle.image.specs.declared.layout.Four.{Four}
use Rattle.image.specs.declared.mirror.Mirror.{Mirror}

abbrev pub standing : ℕ → ℕ → ℕ → Mirror
standing start length from = record { start = start; length = length; from = from }

-- "first settings page, byte 0, bits 7-6 choose none, UID (14 characters), counter (6) or both (21, with 78h between)": the text is both, and
-- its character 15 is the counter's first
unfoldable pub chosen : ℕ → ℕ → Option Mirror
chosen mode start = cond (eqb mode 0) None (Some (cond (eqb mode 1) (standing start 14 0) (cond (eqb mode 2) (standing start 6 15) (standing start 21 0))))

-- whether they choose one at all
abbrev pub is_chosen : ℕ → List ℕ → Bool
is_chosen n img = leb 64 (byte img (first_settings n) 0)

-- "bits 5-4 give the byte in the page, and byte 2 the page"
unfoldable pub wanted : Four → Option Mirror
wanted settings = chosen (settings.b0 / 64) (4 * settings.b2 + settings.b0 / 16 % 4)

-- "READ and FAST_READ show the characters, upper-case hex, counter high byte first"
abbrev pub uid_bytes : List ℕ → List ℕ
uid_bytes img = uid img 0 ∷ uid img 1 ∷ uid img 2 ∷ uid img 3 ∷ uid img 4 ∷ uid img 5 ∷ uid img 6 ∷ []

abbrev pub counter_bytes : ℕ → List ℕ → List ℕ
counter_bytes n img = byte img (tail_page n) 2 ∷ byte img (tail_page n) 1 ∷ byte img (tail_page n) 0 ∷ []

unfoldable pub text : ℕ → List ℕ → List ℕ
text n img = hex_of (uid_bytes img) ++ 0x78 ∷ hex_of (counter_bytes n img)

-- "A page below 04h, or any character past the user pages, means no mirror at all. So does a mirror with the counter in it when the counter is
-- off, or is under password and the tag isn't authenticated."
unfoldable pub allowed : ℕ → List ℕ → Bool → Mirror → Bool
allowed n img authenticated m =
    leb (4 * 0x04) m.start && (leb (m.start + m.length) (4 * lock_page n) && (leb (m.from + m.length) 15 || count_readable n img authenticated))

unfoldable pub mirror_for : ℕ → List ℕ → Bool → Option Mirror
mirror_for n img authenticated = option_and_then (λ m. cond (allowed n img authenticated m) (Some m) None) (wanted (page_at img (first_settings n)))

-- "Settle all modes by a rule over start and length.": what a mirror shows at byte j of the image, which is otherwise shown as b
unfoldable pub replaced : List ℕ → Mirror → ℕ → ℕ → ℕ
replaced characters m j b = cond (leb m.start j && ltb j (m.start + m.length)) (get_or characters (m.from + (j - m.start)) 0) b

unfoldable pub replaced_page : List ℕ → Mirror → ℕ → Four → Four
replaced_page characters m p v =
    let at : ℕ → ℕ → ℕ = λ k. replaced characters m (4 * p + k) in
    record { b0 = at 0 v.b0; b1 = at 1 v.b1; b2 = at 2 v.b2; b3 = at 3 v.b3 }

-- byte k of page p through a mirror, where there is one, and what a reader sees of it
unfoldable pub through : ℕ → List ℕ → Option Mirror → ℕ → ℕ → ℕ
through n img None p k = shown n img p k
through n img (Some m) p k = replaced (text n img) m (4 * p + k) (shown n img p k)

abbrev pub mirrored : ℕ → List ℕ → Bool → ℕ → ℕ → ℕ
mirrored n img authenticated = through n img (mirror_for n img authenticated)
