-- Numbers laid one after the other in bytes, most significant bit first, without gaps. A layout is the list of their widths in bits.
use Rattle.std.specs.Prelude.{List, [], ◌∷◌, ◌++◌, ℕ, ◌+◌, ◌-◌, ◌*◌, ◌/◌, ◌%◌, ◌^◌, ◌<◌, length, get_or, take, drop, replicate}

-- the bits of a layout
abbrev pub total : List ℕ → ℕ
total [] = 0
total (w ∷ ws) = w + total ws

-- the number acc, and after it each value in its width
abbrev pub join : ℕ → List ℕ → List ℕ → ℕ
join acc [] vs = acc
join acc (w ∷ ws) [] = acc
join acc (w ∷ ws) (v ∷ vs) = join (acc * 2 ^ w + v) ws vs

-- the values that a number holds, by their widths
abbrev pub cut : List ℕ → ℕ → List ℕ
cut [] n = []
cut (w ∷ ws) n = n / 2 ^ total ws % 2 ^ w ∷ cut ws n

-- k bytes are a layout too
abbrev pub eights : ℕ → List ℕ
eights k = replicate k 8

-- a number as k bytes
abbrev pub be : ℕ → ℕ → List ℕ
be k n = cut (eights k) n

-- the number that a list of bytes is
unfoldable pub value : List ℕ → ℕ
value xs = join 0 (eights (length xs)) xs

-- its first o bits
unfoldable pub front : ℕ → List ℕ → ℕ
front o xs = value xs / 2 ^ (8 * length xs - o)

-- the field of w bits at bit offset o
unfoldable pub field : ℕ → ℕ → List ℕ → ℕ
field o w xs = front (o + w) xs % 2 ^ w

-- the bytes of a layout's values
unfoldable pub pack : List ℕ → List ℕ → List ℕ
pack ws vs = be (total ws / 8) (join 0 ws vs)

-- the values that bytes hold by a layout
unfoldable pub unpack : List ℕ → List ℕ → List ℕ
unpack ws xs = cut ws (value xs)

-- as many values as widths, each within its own
pub data Within : List ℕ → List ℕ → Type 0 where
  none : Within [] []
  one : {w v : ℕ} {ws vs : List ℕ} → v < 2 ^ w → Within ws vs → Within (w ∷ ws) (v ∷ vs)

-- each element is a byte
abbrev pub Bytes : List ℕ → Type 0
Bytes xs = (i : ℕ) → get_or xs i 0 < 2 ^ 8

-- xs with the bytes ys from index at on
unfoldable pub splice : ℕ → List ℕ → List ℕ → List ℕ
splice at ys xs = take at xs ++ (ys ++ drop (at + length ys) xs)

-- sixteen numbers of nine bits
abbrev pub nines : List ℕ
nines = replicate 16 9

-- eight of them, which end at a whole byte
abbrev pub half_nines : List ℕ
half_nines = replicate 8 9
