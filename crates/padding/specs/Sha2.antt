-- SHA-2 (FIPS 180-4, 4.1.2, 4.1.3, 6.2, 6.4), over what its members differ in.
use Rattle.std.specs.Prelude.{ℕ, ◌+◌, ◌-◌, ◌*◌, List, ◌++◌, slice_index}
use Rattle.padding.specs.Words.{plus, ch, maj, run, grow, words, bytes}

-- words of `size` bytes, the functions of 4.1, and how many rounds with which constants
pub record Member : Type 0 where
  pub size : ℕ
  pub Σ₀ : ℕ → ℕ
  pub Σ₁ : ℕ → ℕ
  pub σ₀ : ℕ → ℕ
  pub σ₁ : ℕ → ℕ
  pub count : ℕ
  pub K : List ℕ

-- a hash value, and the working variables
pub record Eight : Type 0 where
  pub a : ℕ
  pub b : ℕ
  pub c : ℕ
  pub d : ℕ
  pub e : ℕ
  pub f : ℕ
  pub g : ℕ
  pub h : ℕ

abbrev pub sum : Member → ℕ → ℕ → ℕ
sum p = plus (p.size * 8)

-- 6.2.2, 1: the word W of t + 16
abbrev pub next : Member → ℕ → List ℕ → ℕ
next p t ws = sum p (sum p (sum p (p.σ₁ (slice_index ws (t + 14))) (slice_index ws (t + 9))) (p.σ₀ (slice_index ws (t + 1)))) (slice_index ws t)

-- 6.2.2, 1: the message schedule that starts with the block's sixteen words
unfoldable pub expanded : Member → List ℕ → List ℕ
expanded p ws = grow (next p) (p.count - 16) ws

-- 6.2.2, 3
abbrev pub T₁ : Member → ℕ → ℕ → Eight → ℕ
T₁ p k w s = sum p (sum p (sum p (sum p s.h (p.Σ₁ s.e)) (ch (p.size * 8) s.e s.f s.g)) k) w

abbrev pub T₂ : Member → Eight → ℕ
T₂ p s = sum p (p.Σ₀ s.a) (maj s.a s.b s.c)

abbrev pub turn : Member → ℕ → ℕ → Eight → Eight
turn p t₁ t₂ s = record { a = sum p t₁ t₂; b = s.a; c = s.b; d = s.c; e = sum p s.d t₁; f = s.e; g = s.f; h = s.g }

-- 6.2.2, 3: a round with the constant k and the word w
abbrev pub round : Member → ℕ → ℕ → Eight → Eight
round p k w s = turn p (T₁ p k w s) (T₂ p s) s

-- 6.2.2, 3: round t of the schedule ws
abbrev pub step : Member → List ℕ → ℕ → Eight → Eight
step p ws t s = round p (slice_index p.K t) (slice_index ws t) s

-- 6.2.2, 4
abbrev pub join : Member → Eight → Eight → Eight
join p s t =
    record {
      a = sum p s.a t.a;
      b = sum p s.b t.b;
      c = sum p s.c t.c;
      d = sum p s.d t.d;
      e = sum p s.e t.e;
      f = sum p s.f t.f;
      g = sum p s.g t.g;
      h = sum p s.h t.h;
    }

-- 6.2.2, 2 to 4: the hash value after s and the schedule ws
unfoldable pub rounds : Member → List ℕ → Eight → Eight
rounds p ws s = join p (run (step p ws) p.count s) s

-- 6.2.2: the hash value after s and the block m
unfoldable pub compress : Member → Eight → List ℕ → Eight
compress p s m = rounds p (expanded p (words p.size 16 m)) s

-- 6.2.2: the hash value as bytes
unfoldable pub output : Member → Eight → List ℕ
output p s = bytes p.size s.a ++ (bytes p.size s.b ++ (bytes p.size s.c ++ (bytes p.size s.d ++ (bytes p.size s.e ++ (bytes p.size s.f ++ (bytes p.size s.g ++ bytes p.size s.h))))))
