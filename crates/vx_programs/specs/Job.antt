-- The jobs of `apply`: their words on the command line, and their nodes.
use Rattle.std.specs.Prelude.{ℕ, List, Option, Some, None, codes, if◌then◌else◌}
use Rattle.std.specs.Str.{bytes_eq}
use Rattle.vx_base.specs.declared.border.Border.{Border}
use Rattle.vx_base.specs.declared.border.Border.TheVariants.{Undefined, Replicate}
use Rattle.vx_base.specs.declared.function.Function.{Function}
use Rattle.vx_base.specs.declared.function.Function.TheVariants as function
use Rattle.vx_base.specs.declared.node.Node.{Node}
use Rattle.vx_base.specs.declared.policy.Policy.TheVariants.{Wrap}
use Rattle.vx_programs.specs.declared.job.Job.{Job}
use Rattle.vx_programs.specs.declared.job.Operation.{Operation}
use Rattle.vx_programs.specs.declared.job.Operation.TheVariants.{Not, Box, Gaussian, Median, Erode, Dilate}

-- ---- words

-- the operation that the value of `<FUNCTION>` names
abbrev pub parse_operation : List ℕ → Option Operation
parse_operation word =
    if bytes_eq word (codes "not") then Some Not
    else (if bytes_eq word (codes "box") then Some Box
    else (if bytes_eq word (codes "gaussian") then Some Gaussian
    else (if bytes_eq word (codes "median") then Some Median
    else (if bytes_eq word (codes "erode") then Some Erode
    else (if bytes_eq word (codes "dilate") then Some Dilate else None)))))

-- the border that the value of `--border` names
abbrev pub parse_border : List ℕ → Option Border
parse_border word =
    if bytes_eq word (codes "undefined") then Some Undefined
    else (if bytes_eq word (codes "replicate") then Some Replicate else None)

-- ---- nodes

-- the vision function of an operation. OpenVX 1.3, "Vision Functions"
abbrev pub function_of : Operation → Function
function_of Not = function.NotBits
function_of Box = function.Box
function_of Gaussian = function.Gaussian
function_of Median = function.Median
function_of Erode = function.Erode
function_of Dilate = function.Dilate

-- the node of a job, from image 1 to image 2
abbrev pub node_of : Job → Node
node_of job =
    record {
      function = function_of job.operation;
      border = job.border;
      policy = Wrap;
      amount = 0;
      in1 = record { name = 1; slot = None };
      in2 = None;
      out1 = Some (record { name = 2; slot = None });
      out2 = None;
    }
