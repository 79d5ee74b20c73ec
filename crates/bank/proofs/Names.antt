-- The active banks by the code's names are those of the definition's table. Assumes nothing.
use Rattle.std.proofs.Common.{◌≡◌, refl, ap, true, false, cond, List, [], ◌∷◌, ℕ, ◌<◌, map, length, arith, sym, Some, None, Option, leb}
use Rattle.std.proofs.lemmas.Bool.{leb-false}
use Rattle.std.proofs.lemmas.Option.{none-some}
use Rattle.bank.specs.declared.Bank.{Bank as Name}
use Rattle.bank.specs.declared.Bank.TheVariants.{Sha1, Sha256}
use Rattle.bank.specs.Bank.{Bank, table, active, active_of, banks, keep}
use Rattle.bank.specs.Named.{row, named, register_of}

module _ (bitmap : ℕ) (n : Name) (ns : List Name) where
  pub named_on : active bitmap (row n) ≡ true → named bitmap (n ∷ ns) ≡ n ∷ named bitmap ns
  unfolding named
  named_on e = rw e refl

  pub named_off : active bitmap (row n) ≡ false → named bitmap (n ∷ ns) ≡ named bitmap ns
  unfolding named
  named_off e = rw e refl

pub named_none : (bitmap : ℕ) (ns : List Name) → length ns ≡ 0 → named bitmap ns ≡ []
unfolding named
named_none bitmap [] e = refl
named_none bitmap (n ∷ ns) e = absurd (omega (arith, e))

pub rows_named : (bitmap : ℕ) (ns : List Name) → map row (named bitmap ns) ≡ active_of bitmap (map row ns)
unfolding named
rows_named bitmap [] = refl
rows_named bitmap (n ∷ ns) =
    elim (active bitmap (row n)) as (λ v. map row (cond v (n ∷ named bitmap ns) (named bitmap ns)) ≡ keep v (row n) (active_of bitmap (map row ns))) [
      | true ↦ ap (λ (bs : List Bank). row n ∷ bs) (rows_named bitmap ns)
      | false ↦ rows_named bitmap ns
    ]

pub banks_named : (bitmap : ℕ) → map row (named bitmap (Sha1 ∷ (Sha256 ∷ []))) ≡ banks bitmap
unfolding banks table
banks_named bitmap = rows_named bitmap (Sha1 ∷ (Sha256 ∷ []))

-- a register by its number
abbrev number_in : Option ℕ → ℕ → ℕ
number_in (Some n) d = n
number_in None d = d

some_is : {n r : ℕ} → Some n ≡ Some r → r ≡ n
some_is {n} p = sym (ap (λ (o : Option ℕ). number_in o n) p)

pub register_some : (n r : ℕ) → register_of n ≡ Some r → r ≡ n
register_some n r e =
    elim (leb n 23) as (λ v. cond v (Some n) None ≡ Some r → r ≡ n) [
      | true ↦ λ p. some_is p
      | false ↦ λ p. absurd (none-some r p)
    ] e

pub register_none : (n : ℕ) → register_of n ≡ None → 23 < n
register_none n e =
    elim (leb n 23) as (λ v. leb n 23 ≡ v → cond v (Some n) None ≡ None → 23 < n) [
      | true ↦ λ _ p. absurd (none-some n (sym p))
      | false ↦ λ h _. leb-false n 23 h
    ] refl e
