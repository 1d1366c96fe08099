-- What reading shows. Assumes nothing.
use Rattle.std.specs.Prelude.{List, cond, ℕ, ltb}
use Rattle.image.specs.Layout.{byte, pwd_page}
use Rattle.image.specs.declared.layout.Four.{Four}

-- "READ shows stored bytes"; "PWD and PACK pages always read as zeros": byte k of page p
unfoldable pub shown : ℕ → List ℕ → ℕ → ℕ → ℕ
shown n img p k = cond (ltb p (pwd_page n)) (byte img p k) 0

unfoldable pub shown_page : ℕ → List ℕ → ℕ → Four
shown_page n img p = record { b0 = shown n img p 0; b1 = shown n img p 1; b2 = shown n img p 2; b3 = shown n img p 3 }
