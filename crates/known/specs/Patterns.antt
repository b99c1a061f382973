-- The patterns of the atoms: bit p of atom m's word in a block is bit m of assignment 64 * block + p. Assumes nothing.
use Rattle.std.specs.Prelude.{Bool, true, false, not, ◌≡◌, refl, ℕ, zero, suc, ◌+◌, ◌*◌, ◌/◌, ◌%◌, ◌^◌, ◌<◌, eqb}
use Rattle.std.specs.Bool.{beq}
use Rattle.std.proofs.Common.{sym, ap, ◌∙◌, arith, lit<}
use Rattle.script.specs.Tests.{pick}
use Rattle.script.specs.Tests.Bits.{bit, bit_not, bit-zero, bit-low, bit_high, all_below, all-below, beq_same}
use Rattle.rows.specs.Code.{ones, spread_of, pattern_of}

-- ---- the fixed ones

-- bit p of the word is bit m of p
abbrev alike : ℕ → ℕ → ℕ → Bool
alike w m p = beq (bit w p) (bit p m)

fixed : (w m : ℕ) → all_below (alike w m) 64 ≡ true → m < 6 → (block p : ℕ) → p < 64 → bit w p ≡ bit (block * 64 + p) m
fixed w m t h block p s = beq_same (bit w p) (bit p m) (all-below (alike w m) 64 p t s) ∙ sym (bit-low 6 block p m h)

-- ---- the same truth in a whole block

pub bit-ones : (p : ℕ) → p < 64 → bit ones p ≡ true
bit-ones p h = bit_not 64 0 p h (lit< tt) ∙ ap not (bit-zero p)

pub spread-bit : (v p : ℕ) → v < 2 → p < 64 → bit (spread_of v) p ≡ eqb v 1
unfolding spread_of
spread-bit zero p h s = bit-zero p
spread-bit (suc zero) p h s = bit-ones p s
spread-bit (suc (suc v)) p h s = absurd (omega arith)

whole : (v j block p : ℕ) → v < 2 → eqb v 1 ≡ bit block j → p < 64 → bit (spread_of v) p ≡ bit (block * 64 + p) (6 + j)
whole v j block p h e s = spread-bit v p h s ∙ e ∙ sym (bit_high 6 block p j s)

-- ---- each

pub pattern_bit : (m block p : ℕ) → m < 10 → p < 64 → bit (pattern_of m block) p ≡ bit (block * 64 + p) m
unfolding pattern_of bit all_below
pattern_bit zero block p h s = fixed 0xAAAA_AAAA_AAAA_AAAA 0 refl (omega arith) block p s
pattern_bit (suc zero) block p h s = fixed 0xCCCC_CCCC_CCCC_CCCC 1 refl (omega arith) block p s
pattern_bit (suc (suc zero)) block p h s = fixed 0xF0F0_F0F0_F0F0_F0F0 2 refl (omega arith) block p s
pattern_bit (suc (suc (suc zero))) block p h s = fixed 0xFF00_FF00_FF00_FF00 3 refl (omega arith) block p s
pattern_bit (suc (suc (suc (suc zero)))) block p h s = fixed 0xFFFF_0000_FFFF_0000 4 refl (omega arith) block p s
pattern_bit (suc (suc (suc (suc (suc zero))))) block p h s = fixed 0xFFFF_FFFF_0000_0000 5 refl (omega arith) block p s
pattern_bit (suc (suc (suc (suc (suc (suc zero)))))) block p h s = whole (block % 2) 0 block p (omega arith) refl s
pattern_bit (suc (suc (suc (suc (suc (suc (suc zero))))))) block p h s = whole (block / 2 % 2) 1 block p (omega arith) refl s
pattern_bit (suc (suc (suc (suc (suc (suc (suc (suc zero)))))))) block p h s =
    whole (block / 4 % 2) 2 block p (omega arith) (ap (λ (x : ℕ). eqb (x % 2) 1) (quarter block)) s
  where
    quarter : (b : ℕ) → b / 4 ≡ b / 2 / 2
    quarter b = omega arith
pattern_bit (suc (suc (suc (suc (suc (suc (suc (suc (suc zero))))))))) block p h s =
    whole (block / 8 % 2) 3 block p (omega arith) (ap (λ (x : ℕ). eqb (x % 2) 1) (eighth block)) s
  where
    eighth : (b : ℕ) → b / 8 ≡ b / 2 / 2 / 2
    eighth b = omega arith
pattern_bit (suc (suc (suc (suc (suc (suc (suc (suc (suc (suc m)))))))))) block p h s = absurd (omega arith)

pub spread-small : (v : ℕ) → spread_of v < 2 ^ 64
unfolding spread_of
spread-small v = go (eqb v 0)
  where
    go : (b : Bool) → pick b 0 ones < 2 ^ 64
    go true = lit< tt
    go false = lit< tt

pub pattern_small : (m block : ℕ) → pattern_of m block < 2 ^ 64
unfolding pattern_of
pattern_small zero block = lit< tt
pattern_small (suc zero) block = lit< tt
pattern_small (suc (suc zero)) block = lit< tt
pattern_small (suc (suc (suc zero))) block = lit< tt
pattern_small (suc (suc (suc (suc zero)))) block = lit< tt
pattern_small (suc (suc (suc (suc (suc zero))))) block = lit< tt
pattern_small (suc (suc (suc (suc (suc (suc zero)))))) block = spread-small (block % 2)
pattern_small (suc (suc (suc (suc (suc (suc (suc zero))))))) block = spread-small (block / 2 % 2)
pattern_small (suc (suc (suc (suc (suc (suc (suc (suc zero)))))))) block = spread-small (block / 4 % 2)
pattern_small (suc (suc (suc (suc (suc (suc (suc (suc (suc m))))))))) block = spread-small (block / 8 % 2)
