-- The receive windows of Class A (LoRaWAN L2 1.0.4; RP002-1.0.4, EU863-870). Times in microseconds.
use Rattle.std.specs.Prelude.{ℕ, ◌+◌}
use Rattle.radio_core.specs.declared.data_rates.DataRate.TheVariants.{Dr0}
use Rattle.radio_core.specs.declared.data_rates.Rate.{Rate}
use Rattle.registry_core.specs.declared.facts.Kind.{Kind}
use Rattle.registry_core.specs.declared.facts.Kind.TheVariants.{Join, Data}
use Rattle.registry_core.specs.declared.windows.Window.{Window}
use Rattle.registry_core.specs.declared.windows.Window.TheVariants.{First, Second}

-- RECEIVE_DELAY1 and RECEIVE_DELAY2 after a data frame, JOIN_ACCEPT_DELAY1 and JOIN_ACCEPT_DELAY2 after a join request
abbrev pub delay : Kind → Window → ℕ
delay Data First = 1000000
delay Data Second = 2000000
delay Join First = 5000000
delay Join Second = 6000000

-- the first window has the uplink's frequency and data rate; the second is RX2, 869.525 MHz at DR0
abbrev pub rate_in : Window → Rate → Rate
rate_in First rate = rate
rate_in Second rate = record { freq = 869525000; dr = Dr0 }

-- when the downlink begins, after the end of the uplink's reception at its gateway, and its frequency and data rate
abbrev pub window_of : Kind → ℕ → Rate → Window → ℕ × Rate
window_of kind end rate window = (end + delay kind window, rate_in window rate)
