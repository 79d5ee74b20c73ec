-- Document 01, A request: "size u32, header size u32, header version u16 (not looked at), register u32, type u32, event".
use Rattle.std.specs.Prelude.{List, ◌++◌, ℕ}
use Rattle.wire.specs.Bytes.{le}

-- the size, and a header size of 14 and version of 1
unfoldable pub sizes_of : ℕ → List ℕ
sizes_of size = le 4 size ++ (le 4 14 ++ le 2 1)

unfoldable pub request_of : ℕ → ℕ → ℕ → List ℕ → List ℕ
request_of size register kind event = sizes_of size ++ (le 4 register ++ (le 4 kind ++ event))
