-- The bits of a port's status and the feature selectors (USB 2.0 11.24.2.7 and table 11-17), by the standard's names.
-- A port's status is kept as one number of 4 bytes, wPortStatus first and wPortChange above it. So the bit of a change has the
-- number of its selector: C_PORT_RESET is bit 4 of wPortChange, and selector 20.
use Rattle.std.specs.Prelude.{Bool, ℕ, ◌/◌, ◌%◌, ◌^◌, eqb}

-- bits of wPortStatus, table 11-21
abbrev pub port_connection : ℕ
port_connection = 0

abbrev pub port_enable : ℕ
port_enable = 1

abbrev pub port_suspend : ℕ
port_suspend = 2

abbrev pub port_over_current : ℕ
port_over_current = 3

abbrev pub port_reset : ℕ
port_reset = 4

abbrev pub port_power : ℕ
port_power = 8

abbrev pub port_low_speed : ℕ
port_low_speed = 9

-- table 11-21 has this bit; it is no selector
abbrev pub port_high_speed : ℕ
port_high_speed = 10

-- bits of wPortChange, table 11-22, 16 above those of wPortStatus
abbrev pub c_port_connection : ℕ
c_port_connection = 16

abbrev pub c_port_enable : ℕ
c_port_enable = 17

abbrev pub c_port_over_current : ℕ
c_port_over_current = 19

abbrev pub c_port_reset : ℕ
c_port_reset = 20

-- the bit of that number is set
unfoldable pub bit : ℕ → ℕ → Bool
bit n status = eqb (status / 2 ^ n % 2) 1
