-- The banks by the names that the code gives them, and a register by its number.
use Rattle.std.specs.Prelude.{List, ℕ, filter, Option, Some, None, leb, cond}
use Rattle.bank.specs.declared.Bank.{Bank as Name}
use Rattle.bank.specs.declared.Bank.TheVariants.{Sha1, Sha256}
use Rattle.bank.specs.Bank.{Bank, sha1_bank, sha256_bank, active}

-- a bank's row in the table
abbrev pub row : Name → Bank
row Sha1 = sha1_bank
row Sha256 = sha256_bank

-- those of some banks that are active, in their order
unfoldable pub named : ℕ → List Name → List Name
named bitmap ns = filter (λ n. active bitmap (row n)) ns

-- 01, Banks: "A bank has registers 0 to 23": a number's register
abbrev pub register_of : ℕ → Option ℕ
register_of n = cond (leb n 23) (Some n) None
