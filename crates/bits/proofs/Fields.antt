-- A field's parts, the bytes as fields, and the fields of a layout as the values that bytes hold.
-- Assumes nothing.
use mathlib.Core.Path.{◌≡◌, refl, sym, ap, ap₂, ◌∙◌}
use mathlib.Core.List.{List, [], ◌∷◌}
use Prim.Native.Nat.{ℕ, zero, suc, ◌+◌, ◌-◌, ◌*◌, ◌/◌, ◌%◌, ◌^◌, ◌<◌, ◌≤◌}
use native.Mathlib.Nat.{add_assoc, add-zero, zero-add, mul-zero, mul-suc, mod-lt, le_of_suc-le-suc, not-suc-le-zero}
use native.Mathlib.Omega.{arith}
use lib.ListN.{length, get_or, replicate}
use lib.Pow.{pow_pos, shr-shr, high, low, mod-pow-add}
use Rattle.bits.specs.Field.{total, eights, be, value, front, field, pack, unpack, Within, Bytes}
use Rattle.bits.proofs.Layouts.{total-eights, bytes_value, length_pack, unpack_pack}

pub field_lt : (o w : ℕ) (xs : List ℕ) → field o w xs < 2 ^ w
unfolding field
field_lt o w xs = mod-lt _ (pow_pos w)

front-shr : (o w : ℕ) (xs : List ℕ) → o + w ≤ 8 * length xs → front (o + w) xs / 2 ^ w ≡ front o xs
unfolding front
front-shr o w xs h =
    let e : (8 * length xs - (o + w)) + w ≡ 8 * length xs - o = omega arith in
    shr-shr (value xs) (8 * length xs - (o + w)) w ∙ ap (λ (k : ℕ). value xs / 2 ^ k) e

-- A field of q + p bits is the field of its first q and that of its last p.
pub field-join : (o q p : ℕ) (xs : List ℕ) → o + q + p ≤ 8 * length xs → field o (q + p) xs ≡ field o q xs * 2 ^ p + field (o + q) p xs
unfolding field
field-join o q p xs h =
    rw (← add_assoc o q p)
    (mod-pow-add (front (o + q + p) xs) q p ∙ ap (λ (n : ℕ). n % 2 ^ q * 2 ^ p + front (o + q + p) xs % 2 ^ p) (front-shr (o + q) p xs h))

pub field_first : (o q p : ℕ) (xs : List ℕ) → o + q + p ≤ 8 * length xs → field o (q + p) xs / 2 ^ p ≡ field o q xs
field_first o q p xs h = ap (λ (n : ℕ). n / 2 ^ p) (field-join o q p xs h) ∙ high (field o q xs) p (field_lt (o + q) p xs)

pub field_last : (o q p : ℕ) (xs : List ℕ) → o + q + p ≤ 8 * length xs → field o (q + p) xs % 2 ^ p ≡ field (o + q) p xs
field_last o q p xs h = ap (λ (n : ℕ). n % 2 ^ p) (field-join o q p xs h) ∙ low (field o q xs) p (field_lt (o + q) p xs)

get_or-be : (k i n : ℕ) → i < k → get_or (be k n) i 0 ≡ n / 2 ^ (8 * k - (8 * i + 8)) % 2 ^ 8
get_or-be zero i n h = absurd (not-suc-le-zero h)
get_or-be (suc k) zero n h =
    let e : total (eights k) ≡ 8 * suc k - (8 * 0 + 8) = omega (arith, total-eights k) in
    ap (λ (m : ℕ). n / 2 ^ m % 2 ^ 8) e
get_or-be (suc k) (suc i) n h =
    let e : 8 * k - (8 * i + 8) ≡ 8 * suc k - (8 * suc i + 8) = omega arith in
    get_or-be k i n (le_of_suc-le-suc h) ∙ ap (λ (m : ℕ). n / 2 ^ m % 2 ^ 8) e

pub byte : (i o : ℕ) (xs : List ℕ) → Bytes xs → i < length xs → o ≡ 8 * i → get_or xs i 0 ≡ field o 8 xs
unfolding field front
byte i o xs b h e =
    ap (λ (l : List ℕ). get_or l i 0) (sym (bytes_value xs b)) ∙ get_or-be (length xs) i (value xs) h
    ∙ ap (λ (m : ℕ). value xs / 2 ^ (8 * length xs - (m + 8)) % 2 ^ 8) (sym e)

pub field_16 : (a : ℕ) (xs : List ℕ) → Bytes xs → a + 2 ≤ length xs → get_or xs a 0 * 256 + get_or xs (a + 1) 0 ≡ field (8 * a) 16 xs
field_16 a xs b h =
    omega (arith, field-join (8 * a) 8 8 xs (omega arith), byte a (8 * a) xs b (omega arith) refl, byte (a + 1) (8 * a + 8) xs b (omega arith) (omega arith))

pub field_32 : (a : ℕ) (xs : List ℕ) → Bytes xs → a + 4 ≤ length xs
    → get_or xs a 0 * 16777216 + get_or xs (a + 1) 0 * 65536 + get_or xs (a + 2) 0 * 256 + get_or xs (a + 3) 0 ≡ field (8 * a) 32 xs
field_32 a xs b h =
    omega (
      arith,
      field-join (8 * a) 8 8 xs (omega arith),
      field-join (8 * a) 16 8 xs (omega arith),
      field-join (8 * a) 24 8 xs (omega arith),
      byte a (8 * a) xs b (omega arith) refl,
      byte (a + 1) (8 * a + 8) xs b (omega arith) (omega arith),
      byte (a + 2) (8 * a + 16) xs b (omega arith) (omega arith),
      byte (a + 3) (8 * a + 24) xs b (omega arith) (omega arith),
    )

-- What a shift by p and a mask of w bits read of a field is the field of w bits that has p bits of the larger after it.
pub field_part : (o n o' w p : ℕ) (xs : List ℕ) → o ≤ o' → o' + w + p ≡ o + n → o + n ≤ 8 * length xs → field o n xs / 2 ^ p % 2 ^ w ≡ field o' w xs
field_part o n o' w p xs le e h =
    let en : n ≡ (o' - o) + w + p = omega arith in
    let eo : o + (o' - o) ≡ o' = omega arith in
    ap (λ (m : ℕ). field o m xs / 2 ^ p % 2 ^ w) en
    ∙ ap (λ (m : ℕ). m % 2 ^ w) (field_first o ((o' - o) + w) p xs (omega arith))
    ∙ field_last o (o' - o) w xs (omega arith)
    ∙ ap (λ (m : ℕ). field m w xs) eo

pub field_front : (o n w p : ℕ) (xs : List ℕ) → n ≡ w + p → o + n ≤ 8 * length xs → field o n xs / 2 ^ p ≡ field o w xs
field_front o n w p xs e h = ap (λ (m : ℕ). field o m xs / 2 ^ p) e ∙ field_first o w p xs (omega arith)

pub field_back : (o n o' p : ℕ) (xs : List ℕ) → o ≤ o' → o' + p ≡ o + n → o + n ≤ 8 * length xs → field o n xs % 2 ^ p ≡ field o' p xs
field_back o n o' p xs le e h =
    let en : n ≡ (o' - o) + p = omega arith in
    let eo : o + (o' - o) ≡ o' = omega arith in
    ap (λ (m : ℕ). field o m xs % 2 ^ p) en ∙ field_last o (o' - o) p xs (omega arith) ∙ ap (λ (m : ℕ). field m p xs) eo

pub field_none : (o w : ℕ) (xs : List ℕ) → w ≡ 0 → 0 ≡ field o w xs
field_none o w xs e =
    let h : field o 0 xs < 1 = field_lt o 0 xs in
    let z : 0 ≡ field o 0 xs = omega arith in
    z ∙ ap (λ (n : ℕ). field o n xs) (sym e)

-- the fields of a layout from bit o on
abbrev pub fields : ℕ → List ℕ → List ℕ → List ℕ
fields o [] xs = []
fields o (w ∷ ws) xs = field o w xs ∷ fields (o + w) ws xs

pub fields_unpack : (o : ℕ) (ws xs : List ℕ) → o + total ws ≡ 8 * length xs → fields o ws xs ≡ unpack ws xs
unfolding unpack field front
fields_unpack o [] xs e = refl
fields_unpack o (w ∷ ws) xs e =
    let t : 8 * length xs - (o + w) ≡ total ws = omega arith in
    ap₂ {C = List ℕ} (λ (x : ℕ) (l : List ℕ). x ∷ l) (ap (λ (k : ℕ). value xs / 2 ^ k % 2 ^ w) t) (fields_unpack (o + w) ws xs (omega arith))

pub get_or-fields : (n w o i : ℕ) (xs : List ℕ) → i < n → get_or (fields o (replicate n w) xs) i 0 ≡ field (o + w * i) w xs
get_or-fields zero w o i xs h = absurd (not-suc-le-zero h)
get_or-fields (suc n) w o zero xs h = ap (λ (k : ℕ). field k w xs) (rw mul-zero (sym (add-zero o)))
get_or-fields (suc n) w o (suc i) xs h =
    get_or-fields n w (o + w) i xs (le_of_suc-le-suc h) ∙ ap (λ (k : ℕ). field k w xs) (rw mul-suc (omega arith))

-- Of values of one width, each is the field that it was packed into.
pub packed : (n w k i : ℕ) (vs : List ℕ) → total (replicate n w) ≡ 8 * k → Within (replicate n w) vs → i < n
    → field (w * i) w (pack (replicate n w) vs) ≡ get_or vs i 0
packed n w k i vs t r h =
    let ws = replicate n w in
    let xs = pack ws vs in
    ap (λ (m : ℕ). field m w xs) (sym (zero-add (w * i))) ∙ sym (get_or-fields n w 0 i xs h)
    ∙ ap (λ (l : List ℕ). get_or l i 0)
    (fields_unpack 0 ws xs (omega (arith, length_pack ws k t vs)) ∙ unpack_pack ws k t vs r)
