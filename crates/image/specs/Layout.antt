-- What the bytes of an image are, after document 01's "The image". Assumes nothing.
use Rattle.std.specs.Prelude.{◌≡◌, List, [], ◌∷◌, map, cond, ℕ, ◌+◌, ◌-◌, ◌*◌, ◌/◌, ◌%◌, ◌≤◌, length, get_or, eqb, leb, ltb, Option, Some, None}
use Rattle.std.proofs.lemmas.List.Edits.{sets}
use Rattle.locks.specs.Locks.{Sized, lock_page}
use Rattle.image.specs.declared.layout.Four.{Four}
use Rattle.image.specs.declared.layout.Region.{Region}
use Rattle.image.specs.declared.layout.Region.TheVariants.{Uid, StaticLocks, Capability, User, DynamicLocks, Settings, Password, Outside}

-- "The length tells the size": the table's columns N and length
unfoldable pub size_of : ℕ → Option ℕ
size_of l = cond (eqb l 184) (Some 45) (cond (eqb l 544) (Some 135) (cond (eqb l 928) (Some 231) None))

-- "N pages of 4 bytes, then a 4-byte tail": img is an image of n pages
pub record Fits (n : ℕ) (img : List ℕ) : Type 0 where
  pub size : Sized n
  pub least : 45 ≤ n
  pub most : n ≤ 231
  pub whole : length img ≡ 4 * n + 4

-- byte k of page p
unfoldable pub byte : List ℕ → ℕ → ℕ → ℕ
byte img p k = get_or img (4 * p + k) 0

-- the four bytes from place i on, and those of page p
unfoldable pub four_at : List ℕ → ℕ → Four
four_at xs i = record { b0 = get_or xs i 0; b1 = get_or xs (i + 1) 0; b2 = get_or xs (i + 2) 0; b3 = get_or xs (i + 3) 0 }

unfoldable pub page_at : List ℕ → ℕ → Four
page_at img p = record { b0 = byte img p 0; b1 = byte img p 1; b2 = byte img p 2; b3 = byte img p 3 }

unfoldable pub bytes_of : Four → List ℕ
bytes_of v = v.b0 ∷ v.b1 ∷ v.b2 ∷ v.b3 ∷ []

-- "each four bytes low first": of a number of 32 bits, of which no more than a byte is left above the third
unfoldable pub four_of : ℕ → Four
four_of n = record { b0 = n % 256; b1 = n / 256 % 256; b2 = n / 65536 % 256; b3 = n / 16777216 }

-- "each four bytes low first"
unfoldable pub low_first_four : Four → ℕ
low_first_four v = v.b0 + 256 * (v.b1 + 256 * (v.b2 + 256 * v.b3))

-- the image with other bytes at page p
unfoldable pub store : List ℕ → ℕ → Four → List ℕ
store img p v = sets img (4 * p) (bytes_of v)

-- the table's columns "settings", "PWD" and "PACK"; lock_page is "dynamic lock"
abbrev pub first_settings : ℕ → ℕ
first_settings n = n - 4

abbrev pub second_settings : ℕ → ℕ
second_settings n = n - 3

abbrev pub pwd_page : ℕ → ℕ
pwd_page n = n - 2

abbrev pub pack_page : ℕ → ℕ
pack_page n = n - 1

-- the tail follows page N-1 as if it were page N
abbrev pub tail_page : ℕ → ℕ
tail_page n = n

-- what a page is for: "UID, locks, user, settings, password"
unfoldable pub region_of : ℕ → ℕ → Region
region_of n p =
    cond (leb n p) Outside
    (cond (ltb p 2) Uid
    (cond (ltb p 3) StaticLocks
    (cond (ltb p 4) Capability
    (cond (ltb p (lock_page n)) User
    (cond (ltb p (first_settings n)) DynamicLocks
    (cond (ltb p (pwd_page n)) Settings
    Password))))))

-- The table, row by row: N, length, last user page, dynamic lock, settings, PWD, PACK.
pub record TableRow (n l last_user lock settings settings' pwd pack : ℕ) : Type 0 where
  pub size : size_of l ≡ Some n
  pub pages : lock_page n ∷ first_settings n ∷ second_settings n ∷ pwd_page n ∷ pack_page n ∷ [] ≡ lock ∷ settings ∷ settings' ∷ pwd ∷ pack ∷ []
  pub regions : map (region_of n) (0x04 ∷ last_user ∷ lock ∷ settings ∷ settings' ∷ pwd ∷ pack ∷ n ∷ [])
      ≡ User ∷ User ∷ DynamicLocks ∷ Settings ∷ Settings ∷ Password ∷ Password ∷ Outside ∷ []

pub record TheTable : Type 0 where
  pub n45 : TableRow 45 184 0x27 0x28 0x29 0x2A 0x2B 0x2C
  pub n135 : TableRow 135 544 0x81 0x82 0x83 0x84 0x85 0x86
  pub n231 : TableRow 231 928 0xE1 0xE2 0xE3 0xE4 0xE5 0xE6
