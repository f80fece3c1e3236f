-- What a call answers, with the numbers of document 01's table, "What a call answers".
use Rattle.std.specs.Prelude.{ℤ, Result, Ok, Err}
use Rattle.usb_types.specs.Numbers.{minus}
use Rattle.usb_types.specs.declared.types.ErrorCode.{ErrorCode}
use Rattle.usb_types.specs.declared.types.ErrorCode.TheVariants.{General, Argument, Retry, Device, Incompatible, Compiler, Memory, Timeout, Disconnected, GarbledConfiguration, BusFull}
use Rattle.usb_types.specs.declared.types.Halt.{Halt}
use Rattle.usb_types.specs.declared.types.Halt.TheVariants.{GarbledOutcome, OutcomesSpent, LogFull}
use Rattle.usb_types.specs.declared.types.Failure.{Failure}
use Rattle.usb_types.specs.declared.types.Failure.TheVariants.{Error, Stop}
use Rattle.usb_types.specs.declared.types.Refusal.{Refusal}
use Rattle.usb_types.specs.declared.types.Refusal.TheVariants.{BadArgument, StoreDamaged, AlreadyAttached, RootSpeed}

-- the Rust's ResultCode, then "garbled configuration" and "bus full"
abbrev pub error_number : ErrorCode → ℤ
error_number General = minus 1
error_number Argument = minus 2
error_number Retry = minus 3
error_number Device = minus 4
error_number Incompatible = minus 5
error_number Compiler = minus 6
error_number Memory = minus 7
error_number Timeout = minus 8
error_number Disconnected = minus 9
error_number GarbledConfiguration = minus 10
error_number BusFull = minus 11

-- "Answers −13 to −15 stop the whole call"
abbrev pub halt_number : Halt → ℤ
halt_number GarbledOutcome = minus 13
halt_number OutcomesSpent = minus 14
halt_number LogFull = minus 15

-- what a function of the driver answers
abbrev pub Answer : Type 0
Answer = Result (Unit {0}) Failure

abbrev pub answer_number : Answer → ℤ
answer_number (Ok _) = minus 0
answer_number (Err (Error e)) = error_number e
answer_number (Err (Stop h)) = halt_number h

-- "Order at entry": −2; then −16; then, for root attach, already attached −4, and −12
abbrev pub refusal_number : Refusal → ℤ
refusal_number BadArgument = minus 2
refusal_number StoreDamaged = minus 16
refusal_number AlreadyAttached = minus 4
refusal_number RootSpeed = minus 12
