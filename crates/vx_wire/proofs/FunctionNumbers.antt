-- Each function has a number of its own.
use Rattle.std.proofs.Common.{◌≡◌, ℕ, Some, sym, rules, eqb-true, ◌==◌}
use Rattle.vx_wire.proofs.Common.{Function, function_number, function_numbered}
use Rattle.vx_base.specs.Function.{functions}
use Rattle.vx_wire.proofs.Numbers.{found_passes}

-- the function with a function's number is that function
pub numbered_back : (function : Function)
    → function_numbered (function_number function) ≡ Some function
numbered_back function = search rules

pub number_of_function : (n : ℕ) (function : Function)
    → function_numbered n ≡ Some function
    → n ≡ function_number function
number_of_function n function e =
    sym
    (eqb-true (function_number function) n
    (found_passes (λ f. function_number f == n) functions function e))
