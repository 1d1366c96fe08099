-- The settings, after document 01: "First settings page: byte 3 is AUTH0. Second, byte 0 is ACCESS: bit 7 PROT, 6 settings lock, 4 counter
-- on, 3 counter under password, 2-0 AUTHLIM." Assumes nothing.
use Rattle.std.specs.Prelude.{List, Bool, not, ◌&&◌, ℕ, ◌%◌}
use Rattle.locks.specs.Bits.{is_set}
use Rattle.image.specs.Layout.{byte, first_settings, second_settings}

abbrev pub auth0 : ℕ → List ℕ → ℕ
auth0 n img = byte img (first_settings n) 3

abbrev pub access : ℕ → List ℕ → ℕ
access n img = byte img (second_settings n) 0

abbrev pub prot : ℕ → List ℕ → Bool
prot n img = is_set (access n img) 7

abbrev pub settings_locked : ℕ → List ℕ → Bool
settings_locked n img = is_set (access n img) 6

abbrev pub counter_on : ℕ → List ℕ → Bool
counter_on n img = is_set (access n img) 4

abbrev pub counter_guarded : ℕ → List ℕ → Bool
counter_guarded n img = is_set (access n img) 3

abbrev pub authlim : ℕ → List ℕ → ℕ
authlim n img = access n img % 8

-- whether the counter may be shown: "NAK 0h if off, if under password and not authenticated"
unfoldable pub count_readable : ℕ → List ℕ → Bool → Bool
count_readable n img authenticated = counter_on n img && not (counter_guarded n img && not authenticated)
