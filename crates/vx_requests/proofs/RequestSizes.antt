-- A request fits a frame, but for a text that is too long.
use Rattle.std.proofs.Common.{ℕ, ◌<◌, ◌^◌, length, IsTrue, arith, refl, leb-true, le-leb}
use Rattle.vx_requests.proofs.Common.{Request, WriteImage, WriteImagePgm, CreateLut, CreateConvolution, IsRequest, IsFrame, request_frame}
use Rattle.client_model.specs.declared.request.Request.TheVariants.{CreateThreshold, AddNode, Immediate}
use Rattle.vx_wire.proofs.SpelledBytes.{body_is}
use Rattle.vx_wire.proofs.SpelledSizes.{spelled_most, entries_most, threshold_most, convolution_most, length-node_bytes}
use Rattle.vx_requests.specs.Frame.Frames.{fits_a_frame}
use Rattle.vx_requests.specs.declared.frame.limits.TheConstants.{GREATEST_TEXT}

pub fits : (client : ℕ) (request : Request)
    → client < 2 ^ 16
    → IsRequest request
    → IsTrue (fits_a_frame request)
    → IsFrame (request_frame client request)
fits client (WriteImage cell picture) below is fit = record {
  client = below;
  op = omega arith;
  bytes = body_is (WriteImage cell picture) is;
  len = omega (arith, spelled_most picture is.1);
}
fits client (WriteImagePgm cell text) below is fit = record {
  client = below;
  op = omega arith;
  bytes = body_is (WriteImagePgm cell text) is;
  len = omega (arith, leb-true (length text) GREATEST_TEXT fit);
}
fits client (CreateLut lut) below is fit = record {
  client = below;
  op = omega arith;
  bytes = body_is (CreateLut lut) is;
  len = omega (arith, entries_most lut is);
}
fits client (CreateThreshold threshold) below is fit = record {
  client = below;
  op = omega arith;
  bytes = body_is (CreateThreshold threshold) is;
  len = omega (arith, threshold_most threshold);
}
fits client (CreateConvolution convolution) below is fit = record {
  client = below;
  op = omega arith;
  bytes = body_is (CreateConvolution convolution) is;
  len = omega (arith, convolution_most convolution is);
}
fits client (AddNode graph node) below is fit = record {
  client = below;
  op = omega arith;
  bytes = body_is (AddNode graph node) is;
  len = omega (arith, length-node_bytes node);
}
fits client (Immediate node) below is fit = record {
  client = below;
  op = omega arith;
  bytes = body_is (Immediate node) is;
  len = omega (arith, length-node_bytes node);
}
fits client request below is fit = record {
  client = below;
  op = omega arith;
  bytes = body_is request is;
  len = omega arith;
}

-- a request whose frame is within the limits fits a frame
pub no_other : (client : ℕ) (request : Request)
    → IsFrame (request_frame client request)
    → IsTrue (fits_a_frame request)
no_other client (WriteImagePgm cell text) is =
    le-leb (length text) GREATEST_TEXT (omega (arith, is.len))
no_other client request is = refl
