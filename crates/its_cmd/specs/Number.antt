-- The number of each command: DW0 [7:0] (IHI 0069, "ITS commands").
use Rattle.std.specs.Prelude.{ℕ}

-- MOVI
abbrev pub movi_number : ℕ
movi_number = 0x01

-- INT
abbrev pub int_number : ℕ
int_number = 0x03

-- CLEAR
abbrev pub clear_number : ℕ
clear_number = 0x04

-- SYNC
abbrev pub sync_number : ℕ
sync_number = 0x05

-- MAPD
abbrev pub mapd_number : ℕ
mapd_number = 0x08

-- MAPC
abbrev pub mapc_number : ℕ
mapc_number = 0x09

-- MAPTI
abbrev pub mapti_number : ℕ
mapti_number = 0x0A

-- MAPI
abbrev pub mapi_number : ℕ
mapi_number = 0x0B

-- INV
abbrev pub inv_number : ℕ
inv_number = 0x0C

-- INVALL
abbrev pub invall_number : ℕ
invall_number = 0x0D

-- MOVALL
abbrev pub movall_number : ℕ
movall_number = 0x0E

-- DISCARD
abbrev pub discard_number : ℕ
discard_number = 0x0F
