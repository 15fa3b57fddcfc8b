use Rattle.window_kernels.proofs.WindowLaws.{all_are}
use Rattle.window_kernels.proofs.windows.write_windows.Goals as goal

pub write_windows_with_rows-requires-else-width-le512-clause-off_rows :
    goal.write_windows_with_rows-requires-else-width-le512-clause-off_rows
write_windows_with_rows-requires-else-width-le512-clause-off_rows g c =
    all_are 8192 c.border_value-off.result _ c.border_value-off.ensures
