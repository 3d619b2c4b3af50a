-- The status lists that the server has, by id and index, as records (Snap7 1.4 reference manual, `Cli_ReadSZL`:
-- TS7SZL). Which lists exist, and all their contents but run and stop, are this profile's own.
use Rattle.std.specs.Prelude.{ℕ, ◌-◌, ◌==◌, ◌&&◌, Bool, if◌then◌else◌, Option, None, Some}
use Rattle.std.specs.Prelude.{List, [], ◌∷◌, ◌++◌, length, map, replicate, codes}
use Rattle.s7_outer.specs.Numbers.{two_octets}

-- a list: the number of octets of each record, and its records
pub record Table : Type 0 where
  pub record_len : ℕ
  pub records : List (List ℕ)

-- this number of octets 00
abbrev pub zeros : ℕ → List ℕ
zeros count = replicate count 0

-- the ids of the lists that exist (Snap7 1.4 reference manual, `Cli_ReadSZLList`)
abbrev pub directory : Table
directory = record {
  record_len = 2;
  records = map two_octets (0x0000 ∷ 0x0011 ∷ 0x001C ∷ 0x0131 ∷ 0x0232 ∷ 0x0424 ∷ []);
}

-- the order code, 20 octets (Snap7 1.4 reference manual, `Cli_GetOrderCode`: TS7OrderCode)
abbrev pub order_code : List ℕ
order_code = codes "S7SERVER AREA BOOK  "

-- the identity of the module: index 1, the order code, and its version (Snap7 1.4 reference manual,
-- `Cli_GetOrderCode`: TS7OrderCode)
abbrev pub identification : Table
identification = record {
  record_len = 28;
  records = (two_octets 1 ++ order_code ++ (0x00 ∷ 0x00 ∷ 0x00 ∷ 0x01 ∷ 0x00 ∷ 0x00 ∷ [])) ∷ [];
}

-- the text of a component, padded to 32 octets (Snap7 1.4 reference manual, `Cli_GetCpuInfo`: TS7CpuInfo)
abbrev pub filled : List ℕ → List ℕ
filled text = text ++ zeros (32 - length text)

abbrev pub component : ℕ → List ℕ → List ℕ
component index text = two_octets index ++ filled text

-- the components by their indices: the names of the system and of the module, the plant, the copyright, the serial
-- number, and the type of the module
abbrev pub components : Table
components = record {
  record_len = 34;
  records =
      component 1 (codes "S7SERVER")
      ∷ component 2 (codes "AREA BOOK")
      ∷ component 3 []
      ∷ component 4 (codes "OPEN")
      ∷ component 5 (codes "0000000001")
      ∷ component 7 (codes "S7SERVER PLC")
      ∷ [];
}

-- the greatest PDU (Snap7 1.4 reference manual, `Cli_GetCpInfo`: TS7CpInfo); the greatest number of links follows
abbrev pub greatest_pdu : ℕ
greatest_pdu = 1920

abbrev pub greatest_links : ℕ
greatest_links = 1024

-- the limits of communication: index 1, the greatest PDU, and the greatest number of links
abbrev pub communication : Table
communication = record {
  record_len = 40;
  records = (two_octets 1 ++ two_octets greatest_pdu ++ two_octets greatest_links ++ zeros 34) ∷ [];
}

-- the level of protection: 1 is none (Snap7 1.4 reference manual, `Cli_GetProtection`: TS7Protection)
abbrev pub level : ℕ
level = 1

-- How the module is protected: index 4, the level by the mode selector (sch_schal), the level by parameters
-- (sch_par, 0: no password), the level in force (sch_rel), the mode selector at run (bart_sch), and no start-up
-- switch (anl_sch).
abbrev pub protection : Table
protection = record {
  record_len = 40;
  records =
      (two_octets 4 ++ two_octets level ++ two_octets 0 ++ two_octets level ++ two_octets 1 ++ two_octets 0 ++ zeros 28)
      ∷ [];
}

-- the octet of the operating mode (Snap7 1.4 reference manual, `Cli_GetPlcStatus`)
abbrev pub mode_octet : Bool → ℕ
mode_octet running = if running then 0x08 else 0x04

-- the operating mode
abbrev pub mode : Bool → Table
mode running = record { record_len = 20; records = (0x51 ∷ 0x44 ∷ 0xFF ∷ mode_octet running ∷ zeros 16) ∷ [] }

-- the list of an id and an index (Snap7 1.4 reference manual, `Cli_ReadSZL`)
unfoldable pub table_of : ℕ → ℕ → Bool → Option Table
table_of id index running =
    if (id == 0x0000) && (index == 0) then Some directory
    else (if (id == 0x0011) && (index == 0) then Some identification
    else (if (id == 0x001C) && (index == 0) then Some components
    else (if (id == 0x0131) && (index == 1) then Some communication
    else (if (id == 0x0232) && (index == 4) then Some protection
    else (if (id == 0x0424) && (index == 0) then Some (mode running)
    else None)))))
