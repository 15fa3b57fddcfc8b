use Rattle.window_kernels.proofs.Common.{S16, U8, gradient_x, gradient_y, median}
use Rattle.vx_base.specs.Window.{box_mean, gaussian_mean, least_of, greatest_of}
use Rattle.vx_base.proofs.WindowLaws.{nine_image, box_sample, gaussian_sample, median_sample, least_sample, greatest_sample, gradient_x_sample, gradient_y_sample, matrix_image}
use Rattle.window_kernels.proofs.laws.window_results_are_images.Goals as goal

pub returns : goal.returns
returns c = record {
  box_means = λ border a k h is. nine_image U8 box_mean border a box_sample h is k;
  gaussian_means =
      λ border a k h is. nine_image U8 gaussian_mean border a
      (λ zs long s. gaussian_sample zs s) h is k;
  medians =
      λ border a k h is. nine_image U8 median border a (λ zs long s. median_sample zs s) h is k;
  least =
      λ border a k h is. nine_image U8 least_of border a (λ zs long s. least_sample zs s) h is k;
  greatest =
      λ border a k h is. nine_image U8 greatest_of border a (λ zs long s. greatest_sample zs s)
      h is k;
  gradients_x =
      λ border a k h is. nine_image S16 gradient_x border a
      (λ zs long s. gradient_x_sample zs s) h is k;
  gradients_y =
      λ border a k h is. nine_image S16 gradient_y border a
      (λ zs long s. gradient_y_sample zs s) h is k;
  convolutions = matrix_image;
}
