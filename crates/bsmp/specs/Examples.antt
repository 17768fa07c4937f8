-- Board A and 01's lines marked P, as a table; proofs/Examples has the one statement over it. Assumes nothing.
use Rattle.std.specs.Prelude.{true, List, [], ◌∷◌, map, reverse, ℕ, ◌-◌, negsuc, length, take, drop}
use Rattle.bsmp.specs.Board.{variable, Table, State}
use Rattle.bsmp.specs.Packet.{Place, Ending, reply, silence, run, Result, packet}
use Rattle.bsmp.specs.Number.{Reading, is, reading, little_bytes}
use Rattle.bsmp.specs.declared.VariableNumber.{VariableNumber}

-- n bytes as 01 writes them
abbrev pub hex : ℕ → ℕ → List ℕ
hex n x = reverse (little_bytes n x)

-- "Variable 0 read-only, signed big endian; 1 writable, plain; 2 writable, unsigned little endian. One writable curve of
-- 2 blocks of 4 bytes. One function, 1 byte in, 2 out."
abbrev pub table_a : Table
table_a = record {
  variables = record { writable = 0; size = 4; kind = 3 } ∷ record { writable = 1; size = 1; kind = 0 } ∷ record { writable = 1; size = 2; kind = 2 } ∷ [];
  curves = record { writable = 1; size = 4; blocks = 2 } ∷ [];
  functions = record { input = 1; output = 2 } ∷ [];
}

-- "address 5, multicast byte 81"
abbrev pub place_a : Place
place_a = record { own = 5; multicast = 0x81 }

-- "FF FF FF FD; 5A; 34 12; zero bytes. No made groups": board A with this byte in variable 1, and fresh (law `fresh_A`)
abbrev pub state_a : ℕ → State
state_a one = record {
  values = hex 4 0xFF_FF_FF_FD ∷ hex 1 one ∷ hex 2 0x34_12 ∷ [];
  blocks = hex 4 0 ∷ hex 4 0 ∷ [];
  lengths = 4 ∷ 4 ∷ [];
  sums = hex 16 0x7DEA362B3FAC8E00956A4952A3D4F474 ∷ [];
  groups = [];
}

-- what is seen of a packet: how it ends, the whole state after it, and the numbers that the reply's payload reads as
pub record Seen : Type 0 where
  pub ending : Ending
  pub state : State
  pub numbers : List Reading

-- a packet, the variables that the payload is read as, and what 01 settles
pub record Row : Type 0 where
  pub packet : List ℕ
  pub read_as : List VariableNumber
  pub settled : Seen

abbrev pub payload_of : Ending → List ℕ
payload_of (reply r) = take (length r - 5) (drop 4 r)
payload_of silence = []
payload_of (run f i due) = []
payload_of (Ending.refused n) = []

-- what the definition gives on board A, "nothing busy", each line afresh
abbrev pub seen : Row → Seen
seen r =
    let x : Result = packet table_a place_a 0 4104 r.packet (state_a 0x5A) in
    record {
      ending = x.ending;
      state = x.state;
      numbers = map (λ v. reading table_a.variables v true (payload_of x.ending)) r.read_as;
    }

abbrev pub row : List ℕ → Ending → State → Row
row p e s = record { packet = p; read_as = []; settled = record { ending = e; state = s; numbers = [] } }

-- an answer that leaves the board as it is
abbrev pub answer : List ℕ → List ℕ → Row
answer p r = row p (reply r) (state_a 0x5A)

-- "reads as −3"
abbrev pub reads−3 : List ℕ → List ℕ → Row
reads−3 p r = record {
  packet = p;
  read_as = variable 0 ∷ [];
  settled = record { ending = reply r; state = state_a 0x5A; numbers = is (negsuc 2) ∷ [] };
}

unfoldable pub rows : List Row
rows =
    reads−3 (hex 6 0x05_10_00_01_00_EA) (hex 9 0x00_11_00_04_FF_FF_FF_FD_F1)
    ∷ answer (hex 5 0x05_00_00_00_FB) (hex 8 0x00_01_00_03_02_14_00_E6)
    ∷ answer (hex 5 0x05_02_00_00_F9) (hex 8 0x00_03_00_03_04_81_82_F3)
    ∷ answer (hex 5 0x05_04_00_00_F7) (hex 8 0x00_05_00_03_03_01_82_72)
    ∷ answer (hex 10 0x05_20_00_05_00_00_00_00_00_D6) (hex 5 0x00_E6_00_00_1A)
    ∷ answer (hex 8 0x05_20_00_03_01_00_00_D7) (hex 5 0x00_E5_00_00_1B)
    ∷ row (hex 8 0x05_24_00_03_01_54_0F_70) (reply (hex 5 0x00_E0_00_00_20)) (state_a 0x55)
    ∷ row (hex 8 0x05_28_00_03_01_01_77_57) (reply (hex 6 0x00_11_00_01_77_77)) (state_a 0x77)
    ∷ answer (hex 6 0x05_10_00_02_00_E9) (hex 5 0x00_E1_00_00_1F)
    ∷ answer (hex 2 0x05_FB) (hex 5 0x00_E1_00_00_1F)
    ∷ answer (hex 7 0x05_30_00_02_02_00_C7) (hex 5 0x00_E4_00_00_1C)
    ∷ row (hex 7 0xF8_20_00_02_01_66_7F) silence (state_a 0x66)
    ∷ []
