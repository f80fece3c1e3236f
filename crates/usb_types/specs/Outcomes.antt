-- The two codes of an outcome (document 01, "Outcome").
use Rattle.std.specs.Prelude.{Bool, cond, ◌&&◌, ◌||◌, List, [], ◌∷◌, ℕ, ◌^◌, eqb, ltb, get_or, Ok, Err}
use Rattle.usb_types.specs.declared.types.ErrorCode.{ErrorCode}
use Rattle.usb_types.specs.declared.types.ErrorCode.TheVariants.{General, Argument, Retry, Device, Incompatible, Compiler, Memory, Timeout, Disconnected}
use Rattle.usb_types.specs.declared.types.Failure.TheVariants.{Error}
use Rattle.usb_types.specs.Answers.{Answer}

-- garbled: "byte 0 is over 9, or byte 1 is neither 0 to 9 nor 31"
unfoldable pub listed : ℕ → ℕ → Bool
listed submit error = ltb submit 10 && (ltb error 10 || eqb error 31)

-- "byte 1 the error (0 none, else the bit number in UsbTransferError)"
unfoldable pub error_word : ℕ → ℕ
error_word error = cond (eqb error 0) 0 (2 ^ error)

abbrev pub failed : ErrorCode → Answer
failed e = Err (Error e)

-- "0 to 9 for ResultCode 0 to −9"
unfoldable pub submit_results : List Answer
submit_results =
    Ok tt ∷ failed General ∷ failed Argument ∷ failed Retry ∷ failed Device ∷ failed Incompatible ∷ failed Compiler ∷ failed Memory
    ∷ failed Timeout ∷ failed Disconnected ∷ []

-- "a submit code other than 0 is the result; error 31 is −8; another error is −4"
unfoldable pub result_of : ℕ → ℕ → Answer
result_of submit error =
    cond (eqb submit 0)
    (cond (eqb error 0) (Ok tt) (cond (eqb error 31) (failed Timeout) (failed Device)))
    (get_or submit_results submit (Ok tt))
