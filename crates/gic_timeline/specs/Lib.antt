pub use Rattle.gic_picture.specs as GicPicture
pub use Rattle.svg_text.specs as SvgText
