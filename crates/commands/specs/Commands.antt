-- What each command does, after document 01's "Commands in ACTIVE": n is the number of pages, img the image, t the tag. Assumes nothing.
use Rattle.std.specs.Prelude.{List, [], ◌∷◌, Bool, true, false, cond, not, ◌&&◌, ◌||◌, ℕ, ◌+◌, eqb, leb}
use Rattle.image.specs.declared.layout.Four.{Four}
use Rattle.image.specs.declared.layout.Region.{Region}
use Rattle.image.specs.declared.layout.Region.TheVariants.{Uid, StaticLocks, Capability, User, DynamicLocks, Settings, Password, Outside}
use Rattle.image.specs.Layout.{byte, page_at, pwd_page, pack_page, tail_page, region_of}
use Rattle.image.specs.Settings.{auth0, settings_locked, count_readable, authlim}
use Rattle.image.specs.Write.{locked, written}
use Rattle.image.specs.Tail.{failed, with_failed}
use Rattle.tag.specs.declared.state.Tag.{Tag}
use Rattle.tag.specs.State.{moved, halted, granted, authenticated}
use Rattle.tag.specs.Outcome.{silence, Effect, keep, put, Does, does, ack, nak_after, nak, says}

-- "A page is under password when its number is at least AUTH0 and the tag isn't authenticated."
unfoldable pub under_password : ℕ → List ℕ → Tag → ℕ → Bool
under_password n img t p = leb (auth0 n img) p && not (authenticated t)

-- ---- WRITE

-- "NAK 0h if a < 2 or a ≥ N, .. if a is a locked page 3 or user page, or a settings page with the settings lock set"
abbrev pub refuses_in : Region → ℕ → List ℕ → ℕ → Bool
refuses_in Uid n img a = true
refuses_in Outside n img a = true
refuses_in Capability n img a = locked n img a
refuses_in User n img a = locked n img a
refuses_in Settings n img a = settings_locked n img
refuses_in StaticLocks n img a = false
refuses_in DynamicLocks n img a = false
refuses_in Password n img a = false

-- "if under password"
unfoldable pub refuses : ℕ → List ℕ → Tag → ℕ → Bool
refuses n img t a = under_password n img t a || refuses_in (region_of n a) n img a

-- "WRITE A2h a d0-d3: NAK 0h if ..; else ACK."
unfoldable pub write : ℕ → List ℕ → Tag → ℕ → Four → Does
write n img t a d = cond (refuses n img t a) (nak t 0) (ack (put a (written n a (page_at img a) d)) t)

-- ---- GET_VERSION

-- "s = 0F, 11, 13 for N = 45, 135, 231"
unfoldable pub size_code : ℕ → ℕ
size_code n = cond (eqb n 45) 0x0F (cond (eqb n 135) 0x11 0x13)

-- "GET_VERSION 60h: 00 1D 04 01 01 00 s 03 (hex)"
unfoldable pub version : ℕ → Tag → Does
version n t = says (0x00 ∷ 0x1D ∷ 0x04 ∷ 0x01 ∷ 0x01 ∷ 0x00 ∷ size_code n ∷ 0x03 ∷ []) keep t

-- ---- READ_CNT

-- "READ_CNT 39h 02h ..: three counter bytes, low first; NAK 0h if off, if under password and not authenticated, or if the second byte
-- isn't 02h."
unfoldable pub read_count : ℕ → List ℕ → Tag → ℕ → Does
read_count n img t x =
    cond (eqb x 0x02 && count_readable n img (authenticated t))
    (says (byte img (tail_page n) 0 ∷ byte img (tail_page n) 1 ∷ byte img (tail_page n) 2 ∷ []) keep t)
    (nak t 0)

-- ---- PWD_AUTH

-- "NAK 0h if AUTHLIM isn't 0 and the failed count is at least AUTHLIM."
unfoldable pub limit_reached : ℕ → List ℕ → Bool
limit_reached n img = not (eqb (authlim n img) 0) && leb (authlim n img) (failed n img)

unfoldable pub same : Four → Four → Bool
same p q = eqb p.b0 q.b0 && (eqb p.b1 q.b1 && (eqb p.b2 q.b2 && eqb p.b3 q.b3))

-- the failed count stored
unfoldable pub failing : ℕ → List ℕ → ℕ → Effect
failing n img k = put (tail_page n) (with_failed k (page_at img (tail_page n)))

-- "If equal to PWD: count to 0, authenticated, answer the first two PACK bytes."
unfoldable pub accepted : ℕ → List ℕ → Tag → Does
accepted n img t = says (byte img (pack_page n) 0 ∷ byte img (pack_page n) 1 ∷ []) (failing n img 0) (moved t (granted t.state))

-- "Else NAK 0h, and count up by 1 if AUTHLIM isn't 0."
unfoldable pub wrong_counted : ℕ → List ℕ → Effect
wrong_counted n img = cond (eqb (authlim n img) 0) keep (failing n img (failed n img + 1))

unfoldable pub rejected : ℕ → List ℕ → Tag → Does
rejected n img t = nak_after (wrong_counted n img) t 0

-- "PWD_AUTH 1Bh p0-p3"
unfoldable pub pwd_auth : ℕ → List ℕ → Tag → Four → Does
pwd_auth n img t p = cond (limit_reached n img) (nak t 0) (cond (same p (page_at img (pwd_page n))) (accepted n img t) (rejected n img t))

-- ---- HLTA

-- "HLTA is 50h 00h: silence, HALT; with another second byte: NAK 0h."
unfoldable pub hlta : Tag → ℕ → Does
hlta t x = cond (eqb x 0x00) (does silence keep (moved t (halted t.state))) (nak t 0)
